-- Words fit in every node that an update makes.
use Rattle.std.proofs.Common.{ℕ, zero, suc, ◌^◌, ◌<◌, eqb, ltb, List, [], ◌∷◌, take, drop, Some, None, Option}
use Prim.{Unit}
use Rattle.std.proofs.ByRecursion.{All-append, All-take, All-drop}
use Rattle.std.proofs.lemmas.Bool.{cond_both}
use Rattle.std.specs.List.{AllByRecursion}
use Rattle.messages.specs.Algebra.{Algebra}
use Rattle.messages.specs.Lists.{below, batch, join_in, joins, put_first, act_in, acts_in}
use Rattle.messages.specs.Messages.{effect, fold}
use Rattle.messages.specs.declared.entry.Entry.{Entry}
use Rattle.messages.specs.declared.message.Message.{Message}
use Rattle.messages.specs.declared.message.Message.TheVariants.{Put, Remove, Add}
use Rattle.tree.specs.Nodes.{Node}
use Rattle.tree.specs.Operations.{with_message, lower_inner, upper_inner, lower_half, upper_half, absorb, absorb_messages, absorb_records, without_batch}
use Rattle.bridge.specs.Stored.{WordFits, WordsFit}

abbrev MessagesFit : List (Entry Message) → Type 0
MessagesFit xs = AllByRecursion (λ e. WordFits e.value) xs

abbrev RecordsFit : List (Entry ℕ) → Type 0
RecordsFit xs = AllByRecursion (λ e. e.value < 2 ^ 64) xs

-- ---- messages
fold_fits : (K : Algebra) (held m : Message) → WordFits held → WordFits m → WordFits (fold K held m)
fold_fits K held (Put v) f g = g
fold_fits K held Remove f g = g
fold_fits K (Put v) (Add d) f g = K.act_fits v d f g
fold_fits K Remove (Add d) f g = K.act_fits K.start d K.start_fits g
fold_fits K (Add a) (Add d) f g = K.join_fits a d f g

join_fits : (K : Algebra) (k : ℕ) (m : Message) (xs : List (Entry Message)) → WordFits m → MessagesFit xs → MessagesFit (join_in K k m xs)
join_fits K k m [] g f = (g, tt)
join_fits K k m (x ∷ xs) g f =
    cond_both (ltb x.key k) _ _ MessagesFit
    (λ _. (f.0, join_fits K k m xs g f.1))
    (λ _. cond_both (eqb x.key k) _ _ MessagesFit (λ _. (fold_fits K x.value m f.0 g, f.1)) (λ _. (g, f)))

joins_fit : (K : Algebra) (xs bs : List (Entry Message)) → MessagesFit xs → MessagesFit bs → MessagesFit (joins K xs bs)
joins_fit K xs [] f g = f
joins_fit K xs (b ∷ bs) f g = joins_fit K (join_in K b.key b.value xs) bs (join_fits K b.key b.value xs g.0 f) g.1

-- ---- records
-- a word that is there fits
abbrev MaybeFits : Option ℕ → Type 0
MaybeFits None = Unit {0}
MaybeFits (Some v) = v < 2 ^ 64

effect_fits : (K : Algebra) (m : Message) (o : Option ℕ) → WordFits m → MaybeFits o → MaybeFits (effect K m o)
effect_fits K (Put v) o g f = g
effect_fits K Remove o g f = tt
effect_fits K (Add d) None g f = K.act_fits K.start d K.start_fits g
effect_fits K (Add d) (Some v) g f = K.act_fits v d f g

put_fits : (k : ℕ) (o : Option ℕ) (xs : List (Entry ℕ)) → MaybeFits o → RecordsFit xs → RecordsFit (put_first k o xs)
put_fits k None xs g f = f
put_fits k (Some v) xs g f = (g, f)

act_fits : (K : Algebra) (k : ℕ) (m : Message) (xs : List (Entry ℕ)) → WordFits m → RecordsFit xs → RecordsFit (act_in K k m xs)
act_fits K k m [] g f = put_fits k (effect K m None) [] (effect_fits K m None g tt) tt
act_fits K k m (x ∷ xs) g f =
    cond_both (ltb x.key k) _ _ RecordsFit
    (λ _. (f.0, act_fits K k m xs g f.1))
    (λ _. cond_both (eqb x.key k) _ _ RecordsFit
    (λ _. put_fits k (effect K m (Some x.value)) xs (effect_fits K m (Some x.value) g f.0) f.1)
    (λ _. put_fits k (effect K m None) (x ∷ xs) (effect_fits K m None g tt) f))

acts_fit : (K : Algebra) (xs : List (Entry ℕ)) (bs : List (Entry Message)) → RecordsFit xs → MessagesFit bs → RecordsFit (acts_in K xs bs)
acts_fit K xs [] f g = f
acts_fit K xs (b ∷ bs) f g = acts_fit K (act_in K b.key b.value xs) bs (act_fits K b.key b.value xs g.0 f) g.1

-- ---- nodes
pub with_message_fits : (K : Algebra) (k : ℕ) (m : Message) (x : Node) → WordFits m → WordsFit x → WordsFit (with_message K k m x)
with_message_fits K k m x g f = record { messages_fit = join_fits K k m x.messages g f.messages_fit; records_fit = f.records_fit }

pub lower_inner_fits : (i : ℕ) (x : Node) → WordsFit x → WordsFit (lower_inner i x)
lower_inner_fits i x f = record { messages_fit = All-take _ _ x.messages f.messages_fit; records_fit = f.records_fit }

pub upper_inner_fits : (i : ℕ) (x : Node) → WordsFit x → WordsFit (upper_inner i x)
upper_inner_fits i x f = record { messages_fit = All-drop _ _ x.messages f.messages_fit; records_fit = f.records_fit }

pub lower_half_fits : (l : ℕ) (x : Node) → WordsFit x → WordsFit (lower_half l x)
lower_half_fits zero x f = record { messages_fit = f.messages_fit; records_fit = All-take _ _ x.records f.records_fit }
lower_half_fits (suc l) x f = lower_inner_fits 3 x f

pub upper_half_fits : (l : ℕ) (x : Node) → WordsFit x → WordsFit (upper_half l x)
upper_half_fits zero x f = record { messages_fit = f.messages_fit; records_fit = All-drop _ _ x.records f.records_fit }
upper_half_fits (suc l) x f = upper_inner_fits 3 x f

pub without_batch_fits : (low high : ℕ) (x : Node) → WordsFit x → WordsFit (without_batch low high x)
without_batch_fits low high x f = record {
  messages_fit = All-append _ (take (below low x.messages) x.messages) _ (All-take _ _ x.messages f.messages_fit) (All-drop _ _ x.messages f.messages_fit);
  records_fit = f.records_fit;
}

batch_fits : (low high : ℕ) (xs : List (Entry Message)) → MessagesFit xs → MessagesFit (batch low high xs)
batch_fits low high xs f = All-take _ _ (drop (below low xs) xs) (All-drop _ _ xs f)

absorb_fits_at : (K : Algebra) (l : ℕ) (bs : List (Entry Message)) (x : Node) → MessagesFit bs → WordsFit x
    → MessagesFit (absorb_messages K l x.messages bs) × RecordsFit (absorb_records K l x.records bs)
absorb_fits_at K zero bs x g f = (f.messages_fit, acts_fit K x.records bs f.records_fit g)
absorb_fits_at K (suc l) bs x g f = (joins_fit K x.messages bs f.messages_fit g, f.records_fit)

-- a child y that takes a batch of the parent x
pub absorb_fits : (K : Algebra) (low high : ℕ) (x y : Node) → WordsFit x → WordsFit y → WordsFit (absorb K (batch low high x.messages) y)
absorb_fits K low high x y f g =
    let r = absorb_fits_at K y.frame.level (batch low high x.messages) y (batch_fits low high x.messages f.messages_fit) g in
    record { messages_fit = r.0; records_fit = r.1 }
