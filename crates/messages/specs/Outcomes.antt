-- What a test that may refuse gives.
use Rattle.std.specs.Prelude.{Some, None, Ok, Err, Option, Result}

-- the value, unless there is a refusal
abbrev pub ok_unless : {A E : Type 0} → Option E → A → Result A E
ok_unless None a = Ok a
ok_unless (Some refusal) a = Err refusal
