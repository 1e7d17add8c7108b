-- No well-formed run of the same residues is shorter than the one that the packing rule gives: after equally many packets, each of six residues
-- or of fifteen, two packings of the same residues stand at places that differ by a multiple of 9, and the rule's is never behind. Assumes nothing.
use mathlib.Core.Path.{◌≡◌, refl, sym, ap, ◌∙◌}
use mathlib.Core.Bool.{Bool, true, false}
use mathlib.Core.Logic.{◌⊎◌, inl, inr}
use mathlib.Core.List.{List, [], ◌∷◌, ◌++◌}
use Prim.Native.Nat.{ℕ, zero, suc, ◌+◌, ◌*◌, ◌≤◌, ◌<◌}
use native.Mathlib.Omega.{arith}
use lib.Dec.{leb}
use lib.ListN.{length, drop, length-append, length-drop}
use lib.Seq.{drop-drop, drop-append-add}
use borrow.Author.Tests.{leb-true, leb-false}
use Rattle.laws.proofs.Tests.{never, bool_cases, both_pass}
use Rattle.laws.proofs.Digits.{length_digits}
use Rattle.residues.specs.Alphabets.{is_amino}
use Rattle.packets.specs.Packing.{is_two_bit, size, run}
use Rattle.packets.specs.Runs.{is_five_bit, residues, inner, final, formed, well_formed, unpacked}
use Rattle.packets.proofs.Packing.{size-least, size_two, size_five}
use Rattle.packets.proofs.Codes.{residues-most}
use Rattle.packets.proofs.Round.{formed_well, unpacked-cons, unpacked-nil}
use Rattle.packets.proofs.Shapes.{inner_six, five_most, two_fifteen, inner_nucleic, final_nucleic}
use Rattle.packets.proofs.Back.{two_again}
use Rattle.packets.proofs.Lengths.{length_last, length_more}

-- ---- six or fifteen

-- the residues of a packet before the last
abbrev Full : ℕ → Type 0
Full n = (n ≡ 6) ⊎ (n ≡ 15)

inner_full : (a p : ℕ) → inner a p ≡ true → Full (length (residues p))
inner_full a p e = bool_cases (is_five_bit p) (λ f. inl (ap length (inner_six a p f e) ∙ length_digits 5 6 p)) (λ t. inr (two_fifteen p t))

size_full : (a : ℕ) (cs : List ℕ) → size a cs < length cs → Full (size a cs)
size_full a cs h =
    bool_cases (is_two_bit a cs)
    (λ e. inr (size_two a cs (length cs) e))
    (λ e. inl (omega (arith, size_five a cs (length cs) e)))

-- 9 t residues ahead of a packing that takes m, one that takes n is then 9 s ahead, if it takes no less where it is not ahead
ahead : (t m n : ℕ) → (t ≡ 0 → m ≤ n) → Full m → Full n → (s : ℕ) × (9 * t + n ≡ m + 9 * s)
ahead t m n h (inl e) (inl f) = (t, omega arith)
ahead t m n h (inl e) (inr f) = (t + 1, omega arith)
ahead zero m n h (inr e) (inl f) = let z : ⊥ = omega (arith, h refl) in absurd z
ahead (suc t) m n h (inr e) (inl f) = (t, omega arith)
ahead t m n h (inr e) (inr f) = (t, omega arith)

-- ---- at one place

-- where a packet of a run stands, the rule takes at least its residues
least : (a p : ℕ) (rest : List ℕ) → (is_five_bit p ≡ false → is_amino a ≡ false) → length (residues p) ≤ size a (residues p ++ rest)
least a p rest nucleic =
    bool_cases (is_five_bit p)
    (λ f. size-least a (length (residues p)) (residues p ++ rest) (five_most p f) (omega (arith, length-append (residues p) rest)))
    (λ t. omega (arith, two_fifteen p t, size_two a (residues p ++ rest) (length (residues p ++ rest)) (two_again a p rest t (nucleic t))))

-- ---- along a run

-- the last packet: the rule's next packet takes all residues that it has left
last_takes : (a p t : ℕ) → final a p ≡ true → length (drop (9 * t) (residues p ++ [])) ≤ size a (drop (9 * t) (residues p ++ []))
last_takes a p zero e = omega (arith, length-append (residues p) [], least a p [] (λ f. final_nucleic p f a e))
last_takes a p (suc t) e =
    let D = drop (9 * suc t) (residues p ++ []) in
    size-least a (length D) D (omega (arith, length-drop (9 * suc t) (residues p ++ []), length-append (residues p) [], residues-most p)) (omega arith)

-- a packet before the last, and n packets behind it, of residues W: the rule needs no more for what it has left, if it never does for W
module _ (a p t : ℕ) (W : List ℕ) (n : ℕ) (e : inner a p ≡ true) (behind : (s : ℕ) → length (run a (drop (9 * s) W)) ≤ n) where
  abbrev D : List ℕ
  D = drop (9 * t) (residues p ++ W)

  more_takes : size a D < length D → length (run a D) ≤ suc n
  more_takes h =
      let first : t ≡ 0 → length (residues p) ≤ size a D = λ z. rw z (least a p W (λ f. inner_nucleic p f a e)) in
      let k = ahead t (length (residues p)) (size a D) first (inner_full a p e) (size_full a D h) in
      let d : drop (size a D) D ≡ drop (9 * k.0) W =
      drop-drop (size a D) (9 * t) (residues p ++ W)
      ∙ (ap (λ (m : ℕ). drop m (residues p ++ W)) k.1 ∙ drop-append-add (residues p) W (9 * k.0)) in
      omega (arith, length_more a D h, ap (λ (l : List ℕ). length (run a l)) d, behind k.0)

  inner_takes : length (run a D) ≤ suc n
  inner_takes =
      bool_cases (leb (length D) (size a D))
      (λ f. omega (arith, length_last a D (leb-true (length D) (size a D) f)))
      (λ f. more_takes (leb-false (length D) (size a D) f))

never_behind : (a t : ℕ) (w : Bool) (ps : List ℕ) → formed a w ps ≡ true → length (run a (drop (9 * t) (unpacked ps))) ≤ length ps
unfolding formed
never_behind a t w [] e = never e
never_behind a t w (p ∷ []) e =
    rw (unpacked-cons, unpacked-nil)
    (omega (arith, length_last a (drop (9 * t) (residues p ++ [])) (last_takes a p t (both_pass (final a p) _ e).0)))
never_behind a t w (p ∷ q ∷ ps) e =
    let h = both_pass (inner a p) (formed a false (q ∷ ps)) e in
    rw (unpacked-cons p (q ∷ ps))
    (inner_takes a p t (unpacked (q ∷ ps)) (length (q ∷ ps)) h.0 (λ s. never_behind a s false (q ∷ ps) h.1))

-- No well-formed run is shorter than the run of its residues.
pub none_shorter_lem : (a : ℕ) (ps : List ℕ) → well_formed a ps ≡ true → length (run a (unpacked ps)) ≤ length ps
none_shorter_lem a ps e = never_behind a 0 true ps (sym (formed_well a ps) ∙ e)
