use Rattle.std.proofs.Common.{refl}
use Rattle.numbers.specs.Digit.{digits_of}
use Rattle.numbers.specs.Number.{imsi_of, number_of}
use Rattle.message.specs.Writing.{codes_in}
use Rattle.message.proofs.worked.worked_octets_hold.Goals as goal

pub returns : goal.returns
unfolding digits_of imsi_of number_of codes_in
returns c = record {
  update = refl;
  first_insert = refl;
  second_insert = refl;
  final_result = refl;
  cancel_left = refl;
  purge_marked = refl;
  purge_unmarked = refl;
  purge_sgsn = refl;
  purge_both = refl;
  system_failure = refl;
  roaming_barred = refl;
}
