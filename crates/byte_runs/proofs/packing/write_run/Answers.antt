-- `byte_runs::packing::write_run`: by the alphabet, at the start of the part of the output that begins at the place. Assumes nothing.
use mathlib.Core.Path.{◌≡◌, sym, ap, ◌∙◌}
use mathlib.Core.Bool.{true, false}
use native.Mathlib.Omega.{arith}
use borrow.Author.Tests.{eqb-true}
use lib.ListN.{length}
use Rattle.residues.specs.Alphabets.{is_amino}
use Rattle.byte_runs.proofs.RunBegun.{run-same, run_three, valid_same, placed_room, placed}
use Rattle.byte_runs.proofs.packing.write_run.Goals as goal

pub write_amino_run-requires : goal.write_amino_run-requires
write_amino_run-requires c =
    let a = c.args in
    let t : is_amino a.alphabet ≡ true = sym c.is_amino.ensures ∙ c.if-is_amino.true in
    (rw (eqb-true a.alphabet 3 t) at c.requires.0, placed_room _ _ a.out.now a.place.0 c.start_of.result (run_three a.alphabet t a.codes.now) c.requires.1 c.start_of.ensures)

pub returns-then-is_amino : goal.returns-then-is_amino
returns-then-is_amino c =
    let a = c.args in
    let t : is_amino a.alphabet ≡ true = sym c.is_amino.ensures ∙ c.if-is_amino.true in
    let e = run_three a.alphabet t a.codes.now in
    record {
      count = c.write_amino_run.ensures.count ∙ ap length e;
      bytes = placed _ _ a.out.now a.place.0 c.start_of.result e c.requires.1 c.start_of.ensures _ (omega arith) c.write_amino_run.ensures.bytes;
    }

pub write_nucleic_run-requires : goal.write_nucleic_run-requires
write_nucleic_run-requires c =
    let a = c.args in
    let f : is_amino a.alphabet ≡ false = sym c.is_amino.ensures ∙ c.if-is_amino.false in (
      valid_same a.alphabet f a.codes.now c.requires.0,
      placed_room _ _ a.out.now a.place.0 c.start_of.result (sym (run-same a.alphabet f a.codes.now)) c.requires.1 c.start_of.ensures,
    )

pub returns-else-is_amino : goal.returns-else-is_amino
returns-else-is_amino c =
    let a = c.args in
    let f : is_amino a.alphabet ≡ false = sym c.is_amino.ensures ∙ c.if-is_amino.false in
    let e = sym (run-same a.alphabet f a.codes.now) in
    record {
      count = c.write_nucleic_run.ensures.count ∙ ap length e;
      bytes = placed _ _ a.out.now a.place.0 c.start_of.result e c.requires.1 c.start_of.ensures _ (omega arith) c.write_nucleic_run.ensures.bytes;
    }
