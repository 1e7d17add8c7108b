-- The codes of a packet, one by one, and its tests. Assumes nothing.
use mathlib.Core.Path.{◌≡◌, refl, sym, ap, ◌∙◌}
use mathlib.Core.Bool.{Bool, true, false, not, cond, ◌&&◌}
use mathlib.Core.List.{List, [], ◌∷◌}
use Prim.Native.Nat.{ℕ, zero, suc, ◌+◌, ◌*◌, ◌-◌, ◌/◌, ◌%◌, ◌^◌, ◌≤◌, ◌<◌}
use native.Mathlib.Omega.{arith}
use lib.Dec.{eqb, leb, ltb}
use lib.ListN.{length, take, drop, get_or}
use Rattle.std.specs.List.{prefix_len}
use Rattle.std.specs.Prelude.{◌==◌, nat_lt, count_by}
use Rattle.std.proofs.lemmas.List.Sums.{sum_by-cons, count_by-le-length}
use borrow.Author.Tests.{le-ltb, eq-eqb, ne_eqb, eqb-true, eqb-false, le-leb}
use Rattle.laws.specs.Digits.{digits, all_below}
use Rattle.laws.specs.Writing.{written_at}
use Rattle.laws.proofs.Tests.{never, bool_cases, both_pass, cond_passed}
use Rattle.laws.proofs.Digits.{length_digits, below_parts}
use Rattle.residues.specs.Alphabets.{is_amino, code_limit}
use Rattle.packets.specs.Runs.{ends_run, is_five_bit, codes_in, before_fill, residues, only_fill, valid_tailed, inner, final}
use Rattle.packets.specs.Decoded.{put_at, codes_put, residues_put}

-- the six 5-bit codes of a packet
pub five_codes : (p : ℕ) → digits 5 6 p ≡ p / 2 ^ 25 % 32 ∷ p / 2 ^ 20 % 32 ∷ p / 2 ^ 15 % 32 ∷ p / 2 ^ 10 % 32 ∷ p / 2 ^ 5 % 32 ∷ p / 2 ^ 0 % 32 ∷ []
unfolding digits
five_codes p = refl

-- the one at a place, the first at bit 25
pub code_place : (p i bit : ℕ) → i < 6 → bit ≡ 25 - 5 * i → p / 2 ^ bit % 32 ≡ get_or (digits 5 6 p) i 0
unfolding digits
code_place p zero bit h e = rw e refl
code_place p (suc zero) bit h e = rw e refl
code_place p (suc (suc zero)) bit h e = rw e refl
code_place p (suc (suc (suc zero))) bit h e = rw e refl
code_place p (suc (suc (suc (suc zero)))) bit h e = rw e refl
code_place p (suc (suc (suc (suc (suc zero))))) bit h e = rw e refl
code_place p (suc (suc (suc (suc (suc (suc i)))))) bit h e = let z : ⊥ = omega arith in absurd z

-- ---- valid codes and then only 31, by two counts

-- both sides of a test for equality are one more
eqb_more : (a b : ℕ) → eqb (suc a) (suc b) ≡ eqb a b
eqb_more a b =
    bool_cases (eqb a b) (λ e. eq-eqb (suc a) (suc b) (ap suc (eqb-true a b e)) ∙ sym e)
    (λ e. ne_eqb (suc a) (suc b) (λ q. eqb-false a b e (omega arith)) ∙ sym e)

abbrev fill_in : List ℕ → ℕ
fill_in ds = count_by (λ d. d == 31) ds

-- one code more that is 31, or is not
fill_more : (d : ℕ) (ds : List ℕ) → eqb d 31 ≡ true → fill_in (d ∷ ds) ≡ suc (fill_in ds)
fill_more d ds e = sum_by-cons (λ x. cond (x == 31) 1 0) d ds ∙ rw e (omega arith)

fill_same : (d : ℕ) (ds : List ℕ) → eqb d 31 ≡ false → fill_in (d ∷ ds) ≡ fill_in ds
fill_same d ds e = sum_by-cons (λ x. cond (x == 31) 1 0) d ds ∙ rw e (omega arith)

-- as many as there are: only 31
pub fill_counts : (ds : List ℕ) → eqb (fill_in ds) (length ds) ≡ only_fill ds
unfolding only_fill
fill_counts [] = refl
fill_counts (d ∷ ds) =
    bool_cases (eqb d 31) (λ e. rw (fill_more d ds e, e) (eqb_more (fill_in ds) (length ds) ∙ fill_counts ds))
    (λ e. let m = count_by-le-length (λ x. x == 31) ds in
    rw (fill_same d ds e, e) (ne_eqb (fill_in ds) (suc (length ds)) (λ q. omega arith)))

-- the codes in front that are below a limit, and those that are 31
abbrev counted : ℕ → List ℕ → ℕ
counted m ds = prefix_len (λ d. nat_lt d m) ds + fill_in ds

front_more : (m d : ℕ) (ds : List ℕ) → ltb d m ≡ true → prefix_len (λ x. nat_lt x m) (d ∷ ds) ≡ suc (prefix_len (λ x. nat_lt x m) ds)
front_more m d ds f = rw f (omega arith)

front_ends : (m d : ℕ) (ds : List ℕ) → ltb d m ≡ false → prefix_len (λ x. nat_lt x m) (d ∷ ds) ≡ 0
front_ends m d ds f = rw f refl

-- they are all where the codes are valid, then only 31
pub tailed_counts : (m : ℕ) → m ≤ 31 → (ds : List ℕ) → eqb (counted m ds) (length ds) ≡ valid_tailed m ds
unfolding valid_tailed
tailed_counts m h [] = refl
tailed_counts m h (d ∷ ds) =
    let all = suc (length ds) in
    bool_cases (eqb d 31)
    (λ e.
    let q : d ≡ 31 = eqb-true d 31 e in
    let n : counted m (d ∷ ds) ≡ suc (fill_in ds) = omega (arith, front_ends m d ds (le-ltb d m (omega arith)), fill_more d ds e) in
    ap (λ (k : ℕ). eqb k all) n ∙ eqb_more (fill_in ds) (length ds) ∙ fill_counts ds ∙ sym (rw e refl))
    (λ e.
    bool_cases (ltb d m)
    (λ f.
    let n : counted m (d ∷ ds) ≡ suc (counted m ds) = omega (arith, front_more m d ds f, fill_same d ds e) in
    ap (λ (k : ℕ). eqb k all) n ∙ eqb_more (counted m ds) (length ds) ∙ tailed_counts m h ds ∙ sym (rw (e, f) refl))
    (λ f.
    let n : counted m (d ∷ ds) ≡ fill_in ds = omega (arith, front_ends m d ds f, fill_same d ds e) in
    let l = count_by-le-length (λ x. x == 31) ds in
    ap (λ (k : ℕ). eqb k all) n ∙ ne_eqb (fill_in ds) all (λ q. omega arith) ∙ sym (rw (e, f) refl)))

-- ---- the codes before the first 31

pub before_while : (ds : List ℕ) → prefix_len (λ d. not (d == 31)) ds ≡ length (before_fill ds)
unfolding before_fill
before_while [] = refl
before_while (d ∷ ds) =
    elim (d == 31) as (λ (b : Bool). cond (not b) (1 + prefix_len (λ x. not (x == 31)) ds) 0 ≡ length (cond b [] (d ∷ before_fill ds)))
    [ true ↦ refl | false ↦ omega (arith, before_while ds) ]

pub before_le : (ds : List ℕ) → length (before_fill ds) ≤ length ds
unfolding before_fill
before_le [] = omega arith
before_le (d ∷ ds) =
    elim (eqb d 31) as (λ (b : Bool). length (cond b [] (d ∷ before_fill ds)) ≤ suc (length ds))
    [ true ↦ omega arith | false ↦ omega (arith, before_le ds) ]

pub before_prefix : (ds : List ℕ) → take (length (before_fill ds)) ds ≡ before_fill ds
unfolding before_fill
before_prefix [] = refl
before_prefix (d ∷ ds) =
    elim (eqb d 31) as (λ (b : Bool). take (length (cond b [] (d ∷ before_fill ds))) (d ∷ ds) ≡ cond b [] (d ∷ before_fill ds))
    [ true ↦ refl | false ↦ ap (λ (l : List ℕ). d ∷ l) (before_prefix ds) ]

-- valid codes have no 31
pub before-all : (ds : List ℕ) → all_below 28 ds ≡ true → before_fill ds ≡ ds
unfolding before_fill
before-all [] e = refl
before-all (d ∷ ds) e =
    let q = below_parts 28 d ds e in
    let n : eqb d 31 ≡ false = ne_eqb d 31 (λ x. omega arith) in
    rw n (ap (λ (l : List ℕ). d ∷ l) (before-all ds q.1))

-- ---- the tests of a packet, case by case

pub residues-is : (p : ℕ) → residues p ≡ cond (is_five_bit p) (before_fill (digits 5 6 p)) (digits 2 15 p)
unfolding residues
residues-is p = refl

pub inner-is : (a p : ℕ) → inner a p ≡ (not (ends_run p) && cond (is_five_bit p) (all_below (code_limit a) (digits 5 6 p)) (not (is_amino a)))
unfolding inner
inner-is a p = refl

pub final-is : (a p : ℕ) → final a p ≡ (ends_run p && cond (is_five_bit p) (valid_tailed (code_limit a) (digits 5 6 p)) (not (is_amino a)))
unfolding final
final-is a p = refl

pub codes-is : (p : ℕ) → codes_in p ≡ cond (is_five_bit p) (digits 5 6 p) (digits 2 15 p)
unfolding codes_in
codes-is p = refl

module _ (a p : ℕ) where
  pub final_goes : ends_run p ≡ false → final a p ≡ false
  final_goes h = rw (final-is, h)

  pub final_five : ends_run p ≡ true → is_five_bit p ≡ true → final a p ≡ valid_tailed (code_limit a) (digits 5 6 p)
  final_five h k = rw (final-is, h, k)

  pub final_two : ends_run p ≡ true → is_five_bit p ≡ false → final a p ≡ not (is_amino a)
  final_two h k = rw (final-is, h, k)

module _ (p : ℕ) where
  pub residues_five : is_five_bit p ≡ true → residues p ≡ before_fill (digits 5 6 p)
  residues_five h = rw (residues-is, h)

  pub residues_two : is_five_bit p ≡ false → residues p ≡ digits 2 15 p
  residues_two h = rw (residues-is, h)

  pub codes_five : is_five_bit p ≡ true → codes_in p ≡ digits 5 6 p
  codes_five h = rw (codes-is, h)

  pub codes_two : is_five_bit p ≡ false → codes_in p ≡ digits 2 15 p
  codes_two h = rw (codes-is, h)

-- a packet has at most fifteen residues
pub residues-most : (p : ℕ) → length (residues p) ≤ 15
residues-most p =
    bool_cases (is_five_bit p)
    (λ e. omega (arith, ap length (residues_five p e), before_le (digits 5 6 p), length_digits 5 6 p))
    (λ e. omega (arith, ap length (residues_two p e), length_digits 2 15 p))

-- six codes where bit 30 is set, otherwise fifteen
pub codes-count : (p : ℕ) → length (codes_in p) + 9 * (p / 2 ^ 30 % 2) ≡ 15
codes-count p =
    bool_cases (is_five_bit p)
    (λ e. let q : p / 2 ^ 30 % 2 ≡ 1 = eqb-true _ 1 e in omega (arith, ap length (codes_five p e), length_digits 5 6 p))
    (λ e.
    let n = eqb-false (p / 2 ^ 30 % 2) 1 e in
    let q : p / 2 ^ 30 % 2 ≡ 0 = omega arith in
    omega (arith, ap length (codes_two p e), length_digits 2 15 p))

-- a packet that may stand in an amino run has 5-bit codes
pub amino_codes : (p : ℕ) → inner 3 p ≡ true → codes_in p ≡ digits 5 6 p
amino_codes p e =
    let q = both_pass (not (ends_run p)) (cond (is_five_bit p) (all_below 28 (digits 5 6 p)) false) (sym (inner-is 3 p) ∙ e) in
    let f = (cond_passed (is_five_bit p) (λ (z : false ≡ true). never z) q.1).0 in
    codes_five p f

-- ---- codes written

pub put_fits : (cs ds : List ℕ) (at : ℕ) (range : List ℕ) → ds ≡ cs → at + length ds ≤ length range → put_at ds at range ≡ written_at at cs range
put_fits cs ds at range e h = rw (le-leb (at + length ds) (length range) h, e)

pub put_not : (ds : List ℕ) (at : ℕ) (range : List ℕ) → leb (at + length ds) (length range) ≡ false → put_at ds at range ≡ range
put_not ds at range h = rw h

module _ (p at : ℕ) (range : List ℕ) where
  pub codes_put_five : is_five_bit p ≡ true → put_at (digits 5 6 p) at range ≡ codes_put p at range
  unfolding codes_put
  codes_put_five h = rw (codes_five p h)

  pub codes_put_two : is_five_bit p ≡ false → put_at (digits 2 15 p) at range ≡ codes_put p at range
  unfolding codes_put
  codes_put_two h = rw (codes_two p h)

  pub residues_put_five : (n : ℕ) → is_five_bit p ≡ true → n ≡ length (before_fill (digits 5 6 p)) → put_at (take n (digits 5 6 p)) at range ≡ residues_put p at range
  unfolding residues_put
  residues_put_five n h e = rw (e, before_prefix (digits 5 6 p), residues_five p h)

  pub residues_put_two : is_five_bit p ≡ false → put_at (digits 2 15 p) at range ≡ residues_put p at range
  unfolding residues_put
  residues_put_two h = rw (residues_two p h)

  pub codes_put_lem : (cs : List ℕ) → codes_in p ≡ cs → at + length cs ≤ length range → codes_put p at range ≡ written_at at cs range
  unfolding codes_put
  codes_put_lem cs e h = put_fits cs (codes_in p) at range e (rw e h)

  pub codes_lost : leb (at + length (codes_in p)) (length range) ≡ false → codes_put p at range ≡ range
  unfolding codes_put
  codes_lost h = put_not (codes_in p) at range h

  pub residues_put_lem : (cs : List ℕ) → residues p ≡ cs → at + length cs ≤ length range → residues_put p at range ≡ written_at at cs range
  unfolding residues_put
  residues_put_lem cs e h = put_fits cs (residues p) at range e (rw e h)

  pub residues_lost : leb (at + length (residues p)) (length range) ≡ false → residues_put p at range ≡ range
  unfolding residues_put
  residues_lost h = put_not (residues p) at range h

-- what `search` and `grind` are handed to count codes and residues
pub ruleset counts = (before_while, codes_five, codes_two, residues_five, residues_two, length_digits)
