-- The output falls into the replies, and each line has one.
use Rattle.std.proofs.Common.{◌≡◌, ℕ, zero, suc, ◌+◌, ◌-◌, ◌/◌, ◌%◌, ◌≤◌, true, false, cond, eqb, List, [], ◌∷◌, ◌++◌, map, length, ℤ, pos, negsuc, Some, None, decimal, Option, refl, ap, ◌∙◌, arith, length-append, length-drop, length-take}
use Rattle.std.specs.Fmt.{digit_glyph, digits_onto, digits, signed_decimal}
use Rattle.std.proofs.lemmas.Bool.Decides.{nat_tests}
use Rattle.calls.specs.declared.call.Call.{Call}
use Rattle.calls.specs.declared.call.Call.TheVariants.{Close}
use Rattle.calls.specs.declared.point.Point.{Point}
use Rattle.fields.specs.Parts.{lines_of}
use Rattle.fields.specs.Laws.{Clean}
use Rattle.requests.specs.Runs.{good, run_of}
use Rattle.replies.specs.declared.reply.Reply.{Reply}
use Rattle.replies.specs.declared.reply.Reply.TheVariants.{Bad, Accepted, Rejected, Held, Absent, Totalled, Figured, Unfit}
use Rattle.replies.specs.Replies.{reply_text}
use Rattle.replies.specs.Output.{between, replies_to, text_of, output_text}

-- no reply has an LF in it
spelled_clean : (k n : ℕ) (acc : List ℕ) → Clean 10 acc → Clean 10 (digits_onto k 10 false n acc)
spelled_clean zero n acc h = h
spelled_clean (suc k) n acc h =
    let here : eqb (digit_glyph false (n % 10)) 10 ≡ false = grind (arith, nat_tests) in
    elim (eqb (n / 10) 0) as (λ v. Clean 10 (cond v (digit_glyph false (n % 10) ∷ acc) (digits_onto k 10 false (n / 10) (digit_glyph false (n % 10) ∷ acc)))) [
      | true ↦ (here, h)
      | false ↦ spelled_clean k (n / 10) (digit_glyph false (n % 10) ∷ acc) (here, h)
    ]

decimal_clean : (n : ℕ) → Clean 10 (decimal n)
unfolding digits
decimal_clean n = spelled_clean 64 n [] tt

signed_clean : (z : ℤ) → Clean 10 (signed_decimal z)
signed_clean (pos n) = decimal_clean n
signed_clean (negsuc n) = (refl, decimal_clean (suc n))

both_clean : (f g : List ℕ) → Clean 10 f → Clean 10 g → Clean 10 (f ++ (32 ∷ g))
both_clean [] g h k = (refl, k)
both_clean (b ∷ f) g h k = (h.0, both_clean f g h.1 k)

reply_clean : (r : Reply) → Clean 10 (reply_text r)
reply_clean Bad = (refl, (refl, (refl, tt)))
reply_clean Accepted = (refl, (refl, tt))
reply_clean (Rejected number) = (refl, (refl, (refl, decimal_clean number)))
reply_clean (Held sheet quantity day) = (refl, (refl, both_clean _ _ (decimal_clean sheet) (both_clean _ _ (signed_clean quantity) (decimal_clean day))))
reply_clean (Absent sheet) = (refl, (refl, both_clean _ _ (decimal_clean sheet) (refl, (refl, (refl, (refl, tt))))))
reply_clean (Totalled sheets sum reads) = (refl, (refl, both_clean _ _ (decimal_clean sheets) (both_clean _ _ (signed_clean sum) (decimal_clean reads))))
reply_clean (Figured f) = (refl, (refl, both_clean _ _ (decimal_clean f.updates) (both_clean _ _ (decimal_clean f.height) (decimal_clean f.tree_writes))))
reply_clean Unfit = (refl, (refl, (refl, (refl, (refl, (refl, (refl, (refl, tt))))))))

one_line : (l more : List ℕ) → Clean 10 l → lines_of (l ++ (10 ∷ more)) ≡ l ∷ lines_of more
one_line [] more h = refl
one_line (b ∷ l) more h = rw (h.0, one_line l more h.1) refl

pub falls_apart : (rs : List Reply) → lines_of (text_of rs) ≡ map reply_text rs
falls_apart [] = refl
falls_apart (r ∷ rs) = one_line (reply_text r) (text_of rs) (reply_clean r) ∙ ap (λ (ls : List (List ℕ)). reply_text r ∷ ls) (falls_apart rs)

-- a point for each good line gives each line a reply
one_each : (ls : List (Option Call)) (ps : List Point) → length (good ls) ≤ length ps → length (replies_to ls ps) ≡ length ls
one_each [] ps h = refl
one_each (None ∷ ls) ps h = ap suc (one_each ls ps h)
one_each (Some c ∷ ls) [] h = absurd (omega arith)
one_each (Some c ∷ ls) (p ∷ ps) h = ap suc (one_each ls ps (omega arith))

map_length : {X Y : Type 0} (f : X → Y) (xs : List X) → length (map f xs) ≡ length xs
map_length f [] = refl
map_length f (x ∷ xs) = ap suc (map_length f xs)

between_length : (ps : List Point) → length (between ps) ≡ length ps - 2
between_length ps = simp (length-take, length-drop) (omega arith)

pub line_each : (ls : List (Option Call)) (trace : List Point) → length trace ≡ length (run_of ls) → length (lines_of (output_text ls trace)) ≡ length ls
line_each ls trace e =
    let long : length (good ls ++ (Close ∷ [])) ≡ length (good ls) + 1 = length-append (good ls) (Close ∷ []) in
    let room : length (good ls) ≤ length (between trace) = omega (arith, between_length trace, e, long) in
    ap length (falls_apart (replies_to ls (between trace))) ∙ map_length reply_text (replies_to ls (between trace)) ∙ one_each ls (between trace) room
