-- What the packets of a well-formed run can be, in any alphabet: before the last, six residues or fifteen plain ones;
-- the last, at most six residues or fifteen plain ones. Assumes nothing.
use mathlib.Core.Path.{◌≡◌, sym, ap, ◌∙◌}
use mathlib.Core.Bool.{Bool, true, false, not, cond}
use mathlib.Core.List.{List, [], ◌∷◌, ◌++◌}
use Prim.Native.Nat.{ℕ, zero, suc, ◌+◌, ◌≤◌, ◌<◌}
use native.Mathlib.Omega.{arith}
use lib.Dec.{ltb, eqb, lit≤}
use lib.ListN.{length, drop, get_or, length-append, drop_of_length-le}
use lib.Seq.{take_all}
use borrow.Author.Tests.{ltb-true, not-true}
use Rattle.laws.specs.Digits.{digits, all_below}
use Rattle.laws.proofs.Tests.{never, bool_cases, both_pass}
use Rattle.laws.proofs.Digits.{length_digits, below_none, below-cons, below_weaken, below-append}
use Rattle.laws.proofs.Numbers.{digits-below}
use Rattle.laws.proofs.Writing.{drop-step}
use Rattle.residues.specs.Alphabets.{is_amino, code_limit, valid_codes}
use Rattle.residues.proofs.Alphabets.{valid-below}
use Rattle.packets.specs.Packing.{plain}
use Rattle.packets.specs.Runs.{ends_run, is_five_bit, codes_in, before_fill, residues, has_residues, valid_tailed, inner, final, formed, well_formed, unpacked}
use Rattle.packets.proofs.Packing.{below_plain}
use Rattle.packets.proofs.Codes.{inner-is, final-is, before_le, before-all, residues_five, residues_two, codes_five, codes_two}
use Rattle.packets.proofs.Round.{formed_well, unpacked-cons, unpacked-nil}

-- ---- bit 31

pub inner_bit : (a p : ℕ) → inner a p ≡ true → ends_run p ≡ false
inner_bit a p e = not-true (ends_run p) (both_pass (not (ends_run p)) _ (rw inner-is at e)).0

pub final_bit : (a p : ℕ) → final a p ≡ true → ends_run p ≡ true
final_bit a p e = (both_pass (ends_run p) _ (rw final-is at e)).0

-- ---- packets of 5-bit codes

module _ (a p : ℕ) (five : is_five_bit p ≡ true) where
  pub inner-valid : inner a p ≡ true → valid_codes a (digits 5 6 p) ≡ true
  inner-valid e = (both_pass (not (ends_run p)) (valid_codes a (digits 5 6 p)) (rw (inner-is, five) at e)).1

  pub inner_six : inner a p ≡ true → residues p ≡ digits 5 6 p
  inner_six e = residues_five p five ∙ (before-all (digits 5 6 p) (valid-below a (digits 5 6 p) (inner-valid e)))

  pub final_tailed : final a p ≡ true → valid_tailed (code_limit a) (digits 5 6 p) ≡ true
  final_tailed e = (both_pass (ends_run p) (valid_tailed (code_limit a) (digits 5 6 p)) (rw (final-is, five) at e)).1

pub five_most : (p : ℕ) → is_five_bit p ≡ true → length (residues p) ≤ 6
five_most p five = rw (residues_five p five) (omega (arith, before_le (digits 5 6 p), length_digits 5 6 p))

-- ---- packets of 2-bit codes

module _ (p : ℕ) (two : is_five_bit p ≡ false) where
  pub two_fifteen : length (residues p) ≡ 15
  two_fifteen = ap length (residues_two p two) ∙ length_digits 2 15 p

  pub two_plain_codes : plain 15 (digits 2 15 p) ≡ true
  two_plain_codes =
      let l : length (digits 2 15 p) ≡ 15 = length_digits 2 15 p in
      below_plain 15 (digits 2 15 p) (omega arith) (rw (take_all 15 (digits 2 15 p) (omega arith)) (digits-below 2 15 p))

  pub inner_nucleic : (a : ℕ) → inner a p ≡ true → is_amino a ≡ false
  inner_nucleic a e = not-true (is_amino a) (both_pass (not (ends_run p)) (not (is_amino a)) (rw (inner-is, two) at e)).1

  pub final_nucleic : (a : ℕ) → final a p ≡ true → is_amino a ≡ false
  final_nucleic a e = not-true (is_amino a) (both_pass (ends_run p) (not (is_amino a)) (rw (final-is, two) at e)).1

-- ---- either

-- a packet before the last holds no 31: its residues are its codes
pub inner-codes : (a p : ℕ) → inner a p ≡ true → residues p ≡ codes_in p
inner-codes a p e =
    bool_cases (is_five_bit p) (λ f. inner_six a p f e ∙ sym (codes_five p f)) (λ t. residues_two p t ∙ sym (codes_two p t))

four_least : (b : Bool) → 4 ≤ cond b 28 16
four_least true = lit≤ tt
four_least false = lit≤ tt

two_valid : (a p : ℕ) → is_five_bit p ≡ false → valid_codes a (residues p) ≡ true
two_valid a p t = rw (residues_two p t) (below_weaken 4 (code_limit a) (digits 2 15 p) (four_least (is_amino a)) (digits-below 2 15 p))

before-valid : (m : ℕ) (ds : List ℕ) → valid_tailed m ds ≡ true → all_below m (before_fill ds) ≡ true
unfolding valid_tailed before_fill
before-valid m [] e = below_none m
before-valid m (d ∷ ds) e =
    bool_cases (eqb d 31)
    (λ t. rw t (below_none m))
    (λ t.
    let q = both_pass (ltb d m) (valid_tailed m ds) (rw t at e) in
    rw t (below-cons m d (before_fill ds) (ltb-true d m q.0) (before-valid m ds q.1)))

pub inner-residues-valid : (a p : ℕ) → inner a p ≡ true → valid_codes a (residues p) ≡ true
inner-residues-valid a p e = bool_cases (is_five_bit p) (λ f. rw (inner_six a p f e) (inner-valid a p f e)) (λ t. two_valid a p t)

pub final-residues-valid : (a p : ℕ) → final a p ≡ true → valid_codes a (residues p) ≡ true
final-residues-valid a p e =
    bool_cases (is_five_bit p)
    (λ f. rw (residues_five p f) (before-valid (code_limit a) (digits 5 6 p) (final_tailed a p f e)))
    (λ t. two_valid a p t)

-- ---- all packets of a run

formed-valid : (a : ℕ) (w : Bool) (ps : List ℕ) → formed a w ps ≡ true → valid_codes a (unpacked ps) ≡ true
unfolding formed
formed-valid a w [] e = never e
formed-valid a w (p ∷ []) e =
    rw (unpacked-cons, unpacked-nil)
    (below-append (code_limit a) (residues p) [] (final-residues-valid a p (both_pass (final a p) _ e).0) (below_none (code_limit a)))
formed-valid a w (p ∷ q ∷ ps) e =
    let h = both_pass (inner a p) (formed a false (q ∷ ps)) e in
    rw (unpacked-cons p (q ∷ ps))
    (below-append (code_limit a) (residues p) (unpacked (q ∷ ps)) (inner-residues-valid a p h.0) (formed-valid a false (q ∷ ps) h.1))

-- The residues of a well-formed run are valid.
pub unpacked-valid : (a : ℕ) (ps : List ℕ) → well_formed a ps ≡ true → valid_codes a (unpacked ps) ≡ true
unpacked-valid a ps e = formed-valid a true ps (sym (formed_well a ps) ∙ e)

-- what follows the first packets of a run has residues
pub rest_some : (a : ℕ) (ps : List ℕ) → formed a false ps ≡ true → 0 < length (unpacked ps)
unfolding formed
rest_some a [] e = never e
rest_some a (p ∷ []) e =
    rw (unpacked-cons, length-append) (omega (arith, ltb-true 0 (length (residues p)) (both_pass (final a p) (has_residues p) e).1))
rest_some a (p ∷ q ∷ ps) e =
    rw (unpacked-cons p (q ∷ ps), length-append) (omega (arith, rest_some a (q ∷ ps) (both_pass (inner a p) (formed a false (q ∷ ps)) e).1))

formed-inner : (a : ℕ) (w : Bool) (ps : List ℕ) (i : ℕ) → formed a w ps ≡ true → i + 1 < length ps → inner a (get_or ps i 0) ≡ true
unfolding formed
formed-inner a w [] i e h = never e
formed-inner a w (p ∷ []) i e h = let z : ⊥ = omega arith in absurd z
formed-inner a w (p ∷ q ∷ ps) zero e h = (both_pass (inner a p) (formed a false (q ∷ ps)) e).0
formed-inner a w (p ∷ q ∷ ps) (suc i) e h = formed-inner a false (q ∷ ps) i (both_pass (inner a p) (formed a false (q ∷ ps)) e).1 (omega arith)

formed-final : (a : ℕ) (w : Bool) (ps : List ℕ) (i : ℕ) → formed a w ps ≡ true → i + 1 ≡ length ps → final a (get_or ps i 0) ≡ true
unfolding formed
formed-final a w [] i e h = never e
formed-final a w (p ∷ []) zero e h = (both_pass (final a p) _ e).0
formed-final a w (p ∷ []) (suc i) e h = let z : ⊥ = omega arith in absurd z
formed-final a w (p ∷ q ∷ ps) zero e h = let z : ⊥ = omega arith in absurd z
formed-final a w (p ∷ q ∷ ps) (suc i) e h = formed-final a false (q ∷ ps) i (both_pass (inner a p) (formed a false (q ∷ ps)) e).1 (omega arith)

formed-some : (a : ℕ) (w : Bool) (ps : List ℕ) → formed a w ps ≡ true → 0 < length ps
unfolding formed
formed-some a w [] e = never e
formed-some a w (p ∷ ps) e = omega arith

-- Each packet of a well-formed run, by its place.
module _ (a : ℕ) (ps : List ℕ) (e : well_formed a ps ≡ true) where
  whole : formed a true ps ≡ true
  whole = sym (formed_well a ps) ∙ e

  pub well_some : 0 < length ps
  well_some = formed-some a true ps whole

  pub well_inner : (i : ℕ) → i + 1 < length ps → inner a (get_or ps i 0) ≡ true
  well_inner i h = formed-inner a true ps i whole h

  pub well_final : (i : ℕ) → i + 1 ≡ length ps → final a (get_or ps i 0) ≡ true
  well_final i h = formed-final a true ps i whole h

-- the residues from packet i on
pub unpacked-from : (ps : List ℕ) (i : ℕ) → i < length ps → unpacked (drop i ps) ≡ residues (get_or ps i 0) ++ unpacked (drop (i + 1) ps)
unpacked-from ps i h = rw (drop-step ps i 0 h) (unpacked-cons (get_or ps i 0) (drop (i + 1) ps))

pub unpacked_end : (ps : List ℕ) (i : ℕ) → length ps ≤ i → unpacked (drop i ps) ≡ []
unpacked_end ps i h = rw (drop_of_length-le ps {i = i} h) unpacked-nil

pub count-from : (ps : List ℕ) (i : ℕ) → i < length ps → length (unpacked (drop i ps)) ≡ length (residues (get_or ps i 0)) + length (unpacked (drop (i + 1) ps))
count-from ps i h = ap length (unpacked-from ps i h) ∙ length-append (residues (get_or ps i 0)) (unpacked (drop (i + 1) ps))

-- a packet that may stand before the last: as many residues as codes
pub count-inner : (a : ℕ) (ps : List ℕ) (i : ℕ) → i < length ps → inner a (get_or ps i 0) ≡ true
    → length (unpacked (drop i ps)) ≡ length (codes_in (get_or ps i 0)) + length (unpacked (drop (i + 1) ps))
count-inner a ps i h e = count-from ps i h ∙ ap (λ (n : ℕ). n + length (unpacked (drop (i + 1) ps))) (ap length (inner-codes a (get_or ps i 0) e))

-- the last packet
pub count-last : (ps : List ℕ) (i : ℕ) → i + 1 ≡ length ps → length (unpacked (drop i ps)) ≡ length (residues (get_or ps i 0))
count-last ps i h = count-from ps i (omega arith) ∙ omega (arith, ap length (unpacked_end ps (i + 1) (omega arith)))

-- What is no well-formed run: no packets, or a packet before the last that may not stand there.
module _ (a : ℕ) (ps : List ℕ) where
  pub none-not : length ps ≡ 0 → well_formed a ps ≡ false
  none-not h = bool_cases (well_formed a ps) (λ e. let z : ⊥ = omega (arith, well_some a ps e) in absurd z) (λ e. e)

  pub inner-not : (i : ℕ) → i + 1 < length ps → inner a (get_or ps i 0) ≡ false → well_formed a ps ≡ false
  inner-not i h f = bool_cases (well_formed a ps) (λ e. never (sym f ∙ well_inner a ps e i h)) (λ e. e)
