-- `nucleotides::table::put_pieces`: the scan goes on, and a piece adds its entry behind the others. Assumes nothing.
use mathlib.Core.Path.{◌≡◌, refl, ◌∙◌}
use Prim.Native.Nat.{◌+◌, ◌*◌, ◌<◌}
use native.Mathlib.Omega.{arith}
use lib.ListN.{length, take}
use lib.Seq.{length-take-le}
use Rattle.nucleotides.specs.Pieces.{bytes_of, limit_of, piece, pieces_from}
use Rattle.nucleotides.specs.Scan.{code_at}
use Rattle.nucleotides.proofs.Stretches.{met_step, met_piece, taken_next}
use Rattle.nucleotides.proofs.Entries.{limit-positive, piece_written}
use Rattle.nucleotides.proofs.Turns.{entry_fits}
use Rattle.nucleotides.proofs.table.put_pieces.Goals as goal

pub loop-k-preserved-then-codes-k-lt4 : goal.loop-k-preserved-then-codes-k-lt4
loop-k-preserved-then-codes-k-lt4 c =
    let a = c.args in
    let l = c.loop-k in
    let met = met_step (limit_of a.width) a.codes.now a.from l.n l.k l.invariant.1 (omega (arith, c.requires.from_in_bounds)) c.if-codes-k-lt4.true in
    (omega arith, met, l.invariant.2, l.invariant.3)

pub put_entry-requires : goal.put_entry-requires
put_entry-requires c =
    let a = c.args in
    let l = c.loop-k in
    let fits = entry_fits a.width a.codes.now a.from l.n l.k c.piece_length-length.result a.at (length a.out.now)
    l.invariant.1 (omega (arith, c.requires.from_in_bounds)) c.if-codes-k-lt4.false c.piece_length-length.ensures.value c.requires.room in
    (rw c.bytes-w.ensures (omega (arith, fits, l.invariant.2)), c.entry_of.ensures.small)

pub loop-k-preserved : goal.loop-k-preserved
loop-k-preserved c =
    let a = c.args in
    let l = c.loop-k in
    let fits = entry_fits a.width a.codes.now a.from l.n l.k c.piece_length-length.result a.at (length a.out.now)
    l.invariant.1 (omega (arith, c.requires.from_in_bounds)) c.if-codes-k-lt4.false c.piece_length-length.ensures.value c.requires.room in
    let w = bytes_of a.width in
    let most = limit_of a.width in
    let codes = a.codes.now in
    let p = c.piece_length-length in
    let value = p.ensures.value in
    let positive = limit-positive a.width in
    let inside : l.k < length codes = omega (arith, c.requires.from_in_bounds) in
    let all = pieces_from most codes a.from in
    let taken : length (take l.n all) ≡ l.n = length-take-le l.n all (omega (arith, fits)) in
    let next = taken_next most codes a.from l.n l.k p.result l.invariant.1 positive inside c.if-codes-k-lt4.false value in
    let place : a.at + c.bytes-w.result * l.n ≡ a.at + w * length (take l.n all) = rw (c.bytes-w.ensures, taken) refl in (
      omega (arith, p.ensures.bounds, l.invariant.0),
      met_piece most codes a.from l.n l.k p.result l.invariant.1 positive inside c.if-codes-k-lt4.false value,
      c.put_entry.auto.out ∙ l.invariant.2,
      c.put_entry.ensures
          ∙ piece_written w a.at (take l.n all) (take (l.n + 1) all) (piece (code_at codes l.k) l.k p.result) a.out.now l.out
          (a.at + c.bytes-w.result * l.n) c.entry_of.result l.invariant.3 c.entry_of.ensures.value place next (rw taken (fits.1)),
    )
