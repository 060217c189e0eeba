-- The number of each refusal of a store itself. No other place states these.
use Rattle.std.specs.Prelude.{ℕ}
use Rattle.blocks.specs.Refusals.{refusal_number}
use Rattle.blocks.specs.declared.refusal.Refusal.TheVariants.{NoSuchBlock as no_such_block, Spent as spent, Lost as lost}
use Rattle.plan.specs.declared.refusal.StoreRefusal.{StoreRefusal}
use Rattle.plan.specs.declared.refusal.StoreRefusal.TheVariants.{EmptyRange, ShortPage, FullCount, NoRoom, NoSuchBlock, Spent, Lost, WrongKind, NotClosed}

abbrev pub store_number : StoreRefusal → ℕ
store_number EmptyRange = 4
store_number ShortPage = 5
store_number FullCount = 6
store_number NoRoom = 7
store_number NoSuchBlock = refusal_number no_such_block
store_number Spent = refusal_number spent
store_number Lost = refusal_number lost
store_number WrongKind = 13
store_number NotClosed = 14
