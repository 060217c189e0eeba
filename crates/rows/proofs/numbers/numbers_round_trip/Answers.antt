use Rattle.rows.specs.Numbers.{number_of_bytes, bytes_of_number}
use Rattle.rows.proofs.numbers.numbers_round_trip.Goals as goal

pub returns : goal.returns
returns c = record { number_back = number_of_bytes; bytes_back = bytes_of_number }
