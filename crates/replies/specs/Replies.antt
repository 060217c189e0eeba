-- What a line is answered, and its words. No other place states these.
use Rattle.std.specs.Prelude.{ℕ, List, [], ◌∷◌, Some, None, codes, decimal, Option}
use Rattle.std.specs.Fmt.{signed_decimal}
use Rattle.plan.specs.Reports.{Report, number_of}
use Rattle.calls.specs.Refusals.{number_told}
use Rattle.calls.specs.declared.call.Call.{Call}
use Rattle.calls.specs.declared.call.Call.TheVariants.{Open, Booking, Count, Strike, Query, Total, Figures, Close}
use Rattle.calls.specs.declared.answer.Answer.{Answer}
use Rattle.calls.specs.declared.answer.Answer.TheVariants.{NotMade, Opened, Done, Refused, Found, Total as TotalAnswer, Figures as FiguresAnswer, Closed}
use Rattle.calls.specs.declared.answer.Holding.{Holding}
use Rattle.fields.specs.Parts.{spaced}
use Rattle.replies.specs.declared.reply.Reply.{Reply}
use Rattle.replies.specs.declared.reply.Reply.TheVariants.{Bad, Accepted, Rejected, Held, Absent, Totalled, Figured, Unfit}

-- what a query found on a sheet
abbrev pub held_or_absent : ℕ → Option Holding → Reply
held_or_absent sheet (Some h) = Held sheet h.quantity h.day
held_or_absent sheet None = Absent sheet

-- only a query finds: nothing else is answered so
abbrev pub found_by : Call → Option Holding → Reply
found_by (Query sheet) h = held_or_absent sheet h
found_by Open h = Unfit
found_by (Booking sheet amount day) h = Unfit
found_by (Count sheet amount day) h = Unfit
found_by (Strike sheet) h = Unfit
found_by (Total low high) h = Unfit
found_by (Figures part) h = Unfit
found_by Close h = Unfit

-- the first report, the stock store's before the day store's
abbrev pub opened_with : Option Report → Option Report → Reply
opened_with (Some r) day = Rejected (number_of r)
opened_with None (Some r) = Rejected (number_of r)
opened_with None None = Accepted

-- the reply to a line that asked for the call, where the book gave the answer
abbrev pub reply_to : Call → Answer → Reply
reply_to call NotMade = Unfit
reply_to call (Opened stock day) = opened_with stock day
reply_to call Done = Accepted
reply_to call (Refused r) = Rejected (number_told r)
reply_to call (Found f) = found_by call f.holding
reply_to call (TotalAnswer s) = Totalled s.sheets s.sum s.stock_reads
reply_to call (FiguresAnswer f) = Figured f
reply_to call (Closed stock day) = Accepted

-- the words of a reply
abbrev pub reply_words : Reply → List (List ℕ)
reply_words Bad = codes "bad" ∷ []
reply_words Accepted = codes "ok" ∷ []
reply_words (Rejected number) = codes "no" ∷ decimal number ∷ []
reply_words (Held sheet quantity day) = codes "q" ∷ decimal sheet ∷ signed_decimal quantity ∷ decimal day ∷ []
reply_words (Absent sheet) = codes "q" ∷ decimal sheet ∷ codes "none" ∷ []
reply_words (Totalled sheets sum reads) = codes "t" ∷ decimal sheets ∷ signed_decimal sum ∷ decimal reads ∷ []
reply_words (Figured f) = codes "f" ∷ decimal f.updates ∷ decimal f.height ∷ decimal f.tree_writes ∷ []
reply_words Unfit = codes "not" ∷ codes "made" ∷ []

-- its words, a space apart
abbrev pub reply_text : Reply → List ℕ
reply_text r = spaced (reply_words r)
