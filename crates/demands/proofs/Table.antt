-- Document 01's table: every marked case is right, by computation. Assumes nothing.
use mathlib.Core.Path.{refl}
use Rattle.laws.specs.Digits.{digits, value}
use Rattle.fields.specs.Number.{unsigned_at}
use Rattle.sequence.specs.Bases.{base_at}
use Rattle.sequence.specs.Corrections.{is_table, entry_width, entry_count, correction_of, correction_at, entry_fits}
use Rattle.packets.specs.Packing.{plain, is_two_bit, size_of, filled, packet_of, later, run}
use Rattle.elements.specs.Parts.{integer_allowed, integer_part, integer_at}
use Rattle.demands.specs.Cases.{AllRight, table}

pub table_right : AllRight table
unfolding digits value unsigned_at base_at is_table entry_width entry_count correction_of correction_at entry_fits plain is_two_bit size_of filled packet_of
    later run integer_at integer_part integer_allowed
table_right = (refl, (refl, (refl, (refl, (refl, (refl, (refl, (refl, (refl, (refl, ((refl, refl), ((refl, refl), (refl, (refl, tt))))))))))))))
