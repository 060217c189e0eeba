-- What a message does to a key, and which message stands after an arrival.
use Rattle.std.specs.Prelude.{ℕ, Some, None, Option}
use Rattle.messages.specs.Algebra.{Algebra}
use Rattle.messages.specs.declared.message.Message.{Message}
use Rattle.messages.specs.declared.message.Message.TheVariants.{Put, Remove, Add}

-- what a message makes of what a key holds
abbrev pub effect : Algebra → Message → Option ℕ → Option ℕ
effect K (Put v) o = Some v
effect K Remove o = None
effect K (Add d) None = Some (K.act K.start d)
effect K (Add d) (Some v) = Some (K.act v d)

-- which message stands where one is held and another arrives
abbrev pub fold : Algebra → Message → Message → Message
fold K held (Put v) = Put v
fold K held Remove = Remove
fold K (Put v) (Add d) = Put (K.act v d)
fold K Remove (Add d) = Put (K.act K.start d)
fold K (Add a) (Add d) = Add (K.join a d)
