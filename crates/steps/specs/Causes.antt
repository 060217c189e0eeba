-- What came of a call.
use Rattle.std.specs.Prelude.{ℕ, Ok, Err, Result}
use Rattle.plan.specs.Images.{Image, Try}
use Rattle.plan.specs.Images.Try.{done, stop}
use Rattle.plan.specs.Reports.{told_by}
use Rattle.plan.specs.declared.cause.Cause.{Cause}

-- what came of a call: a value made of its result, or a stop with the image as it then is
abbrev pub tried : {T F A : Type 0} → (F → ℕ) → Result T (Cause F) → Image → (T → A) → Try A
tried number (Ok x) d value = done (value x)
tried number (Err c) d value = stop d (told_by number c)
