-- The text that answers the lines of an input.
use Rattle.std.specs.Prelude.{ℕ, ◌-◌, List, [], ◌∷◌, ◌++◌, length, take, drop, Some, None, Option}
use Rattle.calls.specs.declared.call.Call.{Call}
use Rattle.calls.specs.declared.point.Point.{Point}
use Rattle.replies.specs.declared.reply.Reply.{Reply}
use Rattle.replies.specs.declared.reply.Reply.TheVariants.{Bad}
use Rattle.replies.specs.Replies.{reply_to, reply_text}

-- all points but the first, of opening, and the last, of closing
abbrev pub between : List Point → List Point
between ps = take (length ps - 2) (drop 1 ps)

-- bad for a bad line, and for a good one what its call was answered at the next point; once no point is left a good line has no reply
abbrev pub replies_to : List (Option Call) → List Point → List Reply
replies_to [] ps = []
replies_to (None ∷ ls) ps = Bad ∷ replies_to ls ps
replies_to (Some c ∷ ls) [] = replies_to ls []
replies_to (Some c ∷ ls) (p ∷ ps) = reply_to c p.answer ∷ replies_to ls ps

-- a line to each reply
abbrev pub text_of : List Reply → List ℕ
text_of [] = []
text_of (r ∷ rs) = reply_text r ++ (10 ∷ text_of rs)

abbrev pub output_text : List (Option Call) → List Point → List ℕ
output_text lines trace = text_of (replies_to lines (between trace))
