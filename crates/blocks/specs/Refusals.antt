-- The number of each refusal of a device. No other place states one.
use Rattle.std.specs.Prelude.{ℕ, cond, Ok, Err, Result, ◌==◌, nat_lt}
use Rattle.blocks.specs.declared.refusal.Refusal.{Refusal}
use Rattle.blocks.specs.declared.refusal.Refusal.TheVariants.{BadBuffer, NoSuchBlock, Spent, Lost, Damaged}

abbrev pub refusal_number : Refusal → ℕ
refusal_number BadBuffer = 1
refusal_number NoSuchBlock = 8
refusal_number Spent = 9
refusal_number Lost = 10
refusal_number Damaged = 11

-- whether an access with so many bytes to block n can be to a block of a device of a size, and the first reason if it cannot
abbrev pub admitted : ℕ → ℕ → ℕ → Result (Unit {0}) Refusal
admitted len n size = cond (len == 4096) (cond (nat_lt n size) (Ok tt) (Err NoSuchBlock)) (Err BadBuffer)
