-- Bytes counted from the first of a part of a file, and a part of an output written. Assumes nothing.
use mathlib.Core.Path.{◌≡◌, refl, sym, ap, ap₂, ◌∙◌}
use mathlib.Core.List.{List, ◌∷◌, [], ◌++◌}
use Prim.Native.Nat.{ℕ, zero, suc, ◌+◌, ◌-◌, ◌*◌, ◌/◌, ◌%◌, ◌≤◌, ◌<◌}
use native.Mathlib.Nat.{zero-add}
use native.Mathlib.Omega.{arith}
use borrow.Rule.Slice.PartMut.{mid_of, post_of, put_mid}
use lib.Dec.{leb}
use lib.ListN.{length, get_or, take, drop, replicate, length-take, length-drop}
use lib.Seq.{get_or-take, get_or-drop, take-length}
use Rattle.std.proofs.lemmas.List.{replicate_more}
use native.Mathlib.Numerals.{add-one}
use Rattle.laws.specs.Places.{every, list_to}
use Rattle.laws.specs.Writing.{written_at}
use Rattle.laws.proofs.Places.{every-same, length-list_to}
use Rattle.laws.proofs.Storing.{written_start, written_behind}
use Rattle.residues.specs.Tables.{protein_code}
use Rattle.sequence.specs.declared.Entry.{Entry}
use Rattle.sequence.specs.Placed.{placed_protein, placed_protein_residues}
use Rattle.sequence.specs.Sequence.{byte_from, is_protein_byte, most_protein_byte, protein_residues}
use Rattle.sequence.specs.Mended.{residues_from}
use Rattle.sequence.specs.Bases.{bases_of, base_at, two_bit_residues}

-- ---- lists

pub list_to-same : (f g : ℕ → ℕ) (n : ℕ) → ((k : ℕ) → k < n → f k ≡ g k) → list_to f n ≡ list_to g n
list_to-same f g zero h = refl
list_to-same f g (suc n) h =
    ap₂ (λ (x : List ℕ) (y : ℕ). x ++ (y ∷ [])) (list_to-same f g n (λ k l. h k (omega arith))) (h n (omega arith))

-- one number many times
pub list_to-replicate : (v n : ℕ) → replicate n v ≡ list_to (λ _. v) n
list_to-replicate v zero = refl
list_to-replicate v (suc n) =
    ap (λ (m : ℕ). replicate m v) (sym (add-one n)) ∙ sym (replicate_more n v) ∙ ap (λ (l : List ℕ). l ++ (v ∷ [])) (list_to-replicate v n)

-- a part of an output that holds a list
pub part_put : (place k : ℕ) (out part new : List ℕ) → part ≡ new → length new ≡ k → put_mid place k out part ≡ written_at place new out
part_put place k out part new e h =
    let rest : part ++ post_of place k out ≡ written_at 0 new (drop place out) =
    ap (λ (l : List ℕ). l ++ post_of place k out) e
    ∙ ap (λ (m : ℕ). new ++ drop m (drop place out)) (sym h)
    ∙ sym (written_start new (drop place out)) in
    ap (λ (l : List ℕ). take place out ++ l) rest ∙ written_behind place new out

-- a part of an output that was filled with one number
pub part_filled : (v place k n : ℕ) (out part : List ℕ) → n ≡ k → place + k ≤ length out → part ≡ replicate (length (mid_of place k out)) v
    → put_mid place k out part ≡ written_at place (list_to (λ _. v) n) out
part_filled v place k n out part e h g =
    let own : length (mid_of place k out) ≡ n = simp (length-take, length-drop) (omega arith) in
    part_put place k out part (list_to (λ _. v) n) (g ∙ ap (λ (m : ℕ). replicate m v) own ∙ list_to-replicate v n)
    (length-list_to (λ (_ : ℕ). v) n ∙ e)

-- ---- bytes of a part

-- byte k of all bytes
pub from_first : (bytes : List ℕ) (k : ℕ) → get_or bytes k 0 ≡ byte_from bytes 0 k
from_first bytes k = sym (ap (λ (i : ℕ). get_or bytes i 0) (zero-add k))

module _ (bytes : List ℕ) (at n : ℕ) where
  -- byte k of a part
  pub byte_in_part : (k : ℕ) → k < n → byte_from (take n (drop at bytes)) 0 k ≡ byte_from bytes at k
  byte_in_part k h = sym (from_first (take n (drop at bytes)) k) ∙ get_or-take n (drop at bytes) k 0 h ∙ get_or-drop at bytes k 0

  -- the residues of a part, one to a byte
  pub part_residues : protein_residues (take n (drop at bytes)) 0 n ≡ protein_residues bytes at n
  part_residues = list_to-same _ _ n (λ k h. ap protein_code (byte_in_part k h))

  pub part_residues_from : protein_residues (take n (drop at bytes)) 0 n ≡ residues_from bytes 0 at n
  part_residues_from = list_to-same _ _ n (λ k h. ap protein_code (byte_in_part k h ∙ from_first bytes (at + k)))

-- the bytes of a protein are a part of its file: how many they are, whether each is a protein value, and their residues
pub record OwnBytes (sequence : List ℕ) (e : Entry) (own : List ℕ) : Type 0 where
  pub size : length own ≡ placed_protein e
  pub tests : every (is_protein_byte own 0) (length own) ≡ every (is_protein_byte sequence e.start) (placed_protein e)
  pub residues : protein_residues own 0 (length own) ≡ placed_protein_residues sequence e

pub own_bytes : (sequence : List ℕ) (e : Entry) → e.start ≤ e.end → e.end < length sequence
    → OwnBytes sequence e (take (e.end - e.start) (drop e.start sequence))
own_bytes sequence e low high =
    let n = placed_protein e in
    let own = take n (drop e.start sequence) in
    let size : length own ≡ n = simp (length-take, length-drop) (omega arith) in record {
      size = size;
      tests = ap (every (is_protein_byte own 0)) size
          ∙ every-same (is_protein_byte own 0) (is_protein_byte sequence e.start) n (λ k h. ap (λ (b : ℕ). leb b most_protein_byte) (byte_in_part sequence e.start n k h));
      residues = ap (protein_residues own 0) size ∙ part_residues sequence e.start n;
    }

-- ---- two-bit residues of a part

-- those of the first bytes
pub front_bases : (bytes : List ℕ) (n : ℕ) → two_bit_residues (take n bytes) 0 (4 * n) ≡ two_bit_residues bytes 0 (4 * n)
unfolding base_at
front_bases bytes n =
    list_to-same _ _ (4 * n)
    (λ k h. let inside : 0 + k / 4 < n = omega arith in
    ap (λ (b : ℕ). get_or (bases_of b) (k % 4) 0) (get_or-take n bytes (0 + k / 4) 0 inside))

-- those of the bytes from a place on
pub behind_bases : (bytes : List ℕ) (at n : ℕ) → two_bit_residues (take (length bytes - at) (drop at bytes)) 0 n ≡ two_bit_residues bytes at n
unfolding base_at
behind_bases bytes at n =
    ap (λ (l : List ℕ). two_bit_residues l 0 n) (ap (λ (m : ℕ). take m (drop at bytes)) (sym (length-drop at bytes)) ∙ take-length (drop at bytes))
    ∙
    list_to-same _ _ n
    (λ k h. ap (λ (b : ℕ). get_or (bases_of b) (k % 4) 0)
    (ap (λ (i : ℕ). get_or (drop at bytes) i 0) (zero-add (k / 4)) ∙ get_or-drop at bytes (k / 4) 0))
