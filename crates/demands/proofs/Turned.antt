-- Sets of both byte orders (request 2026-07): a set and the same set turned have one answer, and files of one set have one order.
-- Assumes nothing.
use Rattle.std.specs.Prelude.{Err, Ok}
use mathlib.Core.Path.{◌≡◌, refl}
use mathlib.Core.Bool.{true}
use mathlib.Core.List.{List}
use Prim.Native.Nat.{ℕ, ◌≤◌}
use lib.ListN.{length}
use borrow.Author.Tests.{le-leb, eq-eqb, ne_eqb}
use Rattle.laws.specs.Digits.{all_below}
use Rattle.answers.specs.declared.Refusal.TheVariants.{WrongMagic}
use Rattle.answers.specs.Limits.{checked_by}
use Rattle.fields.specs.declared.Order.{Order}
use Rattle.fields.specs.Turned.{other}
use Rattle.dsqdata.specs.Header.{set_magic, set_order, magic_of}
use Rattle.dsqdata.specs.Check.{size_rules, start_rules, file_rules, set_rules, set_check, set_number}
use Rattle.dsqdata.specs.Turned.{turned_index, turned_metadata, turned_sequence, turned_record}
use Rattle.dsqdata.specs.declared.SetRecord.{SetRecord}
use Rattle.dsqdata.proofs.Chain.{err_then, ok_then}
use Rattle.dsqdata.proofs.Orders.{one_magic, order_shown}
use Rattle.dsqdata.proofs.Turned.{turned_number, turned_passes}

-- Turn every integer and every packet of the three files of a set, and no text: the check gives the same number, and where it passes, the same
-- ten fields and the other order. The files are any bytes.
pub turned_same : (index metadata sequence : List ℕ) → all_below 256 index ≡ true → all_below 256 metadata ≡ true → all_below 256 sequence ≡ true →
    let order = set_order index in
    let turned = set_check (turned_index order index) (turned_metadata order index metadata) (turned_sequence order sequence) in
    (set_number turned ≡ set_number (set_check index metadata sequence))
    × ((set : SetRecord) → set_check index metadata sequence ≡ Ok set → turned ≡ Ok (turned_record set))
turned_same index metadata sequence i m s = (turned_number index metadata sequence i m s, turned_passes index metadata sequence i m s)

-- ---- 14

-- the start of a file that is long enough, by its magic
module _ (order : Order) (least : ℕ) (file : List ℕ) (long : least ≤ length file) where
  start-passes : magic_of order file ≡ set_magic → Ok tt ≡ checked_by (start_rules order least file)
  unfolding start_rules
  start-passes e = rw (le-leb _ _ long, eq-eqb _ _ e)

  start-refuses : (magic_of order file ≡ set_magic → ⊥) → Err WrongMagic ≡ checked_by (start_rules order least file)
  unfolding start_rules
  start-refuses n = rw (le-leb _ _ long, ne_eqb _ _ n)

module _ (index metadata sequence : List ℕ) (index_fits : length index ≤ 2147483647) (metadata_fits : length metadata ≤ 2147483647)
    (sequence_fits : length sequence ≤ 2147483647) (index_starts : 52 ≤ length index) where
  sizes_pass : Ok tt ≡ checked_by (size_rules index metadata sequence)
  unfolding size_rules
  sizes_pass = rw (le-leb _ _ index_fits, le-leb _ _ metadata_fits, le-leb _ _ sequence_fits)

  -- what the rules of the files refuse in the order of the index, the check does
  refused_so : (order : Order) → set_order index ≡ order → Err WrongMagic ≡ checked_by (file_rules order index metadata sequence)
      → set_number (set_check index metadata sequence) ≡ 14
  unfolding set_check set_rules
  refused_so order o e = rw (o, err_then Err _ _ _ _ _ e)

  -- An index that begins with the magic in neither order is refused with 14.
  pub no_magic : ((order : Order) → magic_of order index ≡ set_magic → ⊥) → set_number (set_check index metadata sequence) ≡ 14
  unfolding file_rules
  no_magic n =
      let order = set_order index in
      refused_so order refl (rw (ok_then Err _ _ _ _ _ sizes_pass, err_then Err _ _ _ _ _ (start-refuses order 52 index index_starts (n order))))

  module _ (order : Order) (index_magic : magic_of order index ≡ set_magic) (metadata_starts : 8 ≤ length metadata) where
    -- So is a set whose metadata file is of the other order than its index, whatever the order of its sequence file ..
    pub metadata_of_other_order : magic_of (other order) metadata ≡ set_magic → set_number (set_check index metadata sequence) ≡ 14
    unfolding file_rules
    metadata_of_other_order e =
        refused_so order (order_shown order index index_magic)
        (rw (
          ok_then Err _ _ _ _ _ sizes_pass,
          ok_then Err _ _ _ _ _ (start-passes order 52 index index_starts index_magic),
          err_then Err _ _ _ _ _ (start-refuses order 8 metadata metadata_starts (λ f. one_magic order metadata f e)),
        ))

    -- .. and one whose sequence file is.
    pub sequence_of_other_order : magic_of order metadata ≡ set_magic → 8 ≤ length sequence → magic_of (other order) sequence ≡ set_magic
        → set_number (set_check index metadata sequence) ≡ 14
    unfolding file_rules
    sequence_of_other_order f sequence_starts e =
        refused_so order (order_shown order index index_magic)
        (rw (
          ok_then Err _ _ _ _ _ sizes_pass,
          ok_then Err _ _ _ _ _ (start-passes order 52 index index_starts index_magic),
          ok_then Err _ _ _ _ _ (start-passes order 8 metadata metadata_starts f),
          err_then Err _ _ _ _ _ (start-refuses order 8 sequence sequence_starts (λ g. one_magic order sequence g e)),
        ))
