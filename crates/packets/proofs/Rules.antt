-- A run is well formed exactly when document 01's rules hold, one by one. Assumes nothing.
use mathlib.Core.Path.{◌≡◌, refl, sym, ap, ◌∙◌}
use mathlib.Core.Bool.{Bool, true, false, not}
use mathlib.Core.List.{List, [], ◌∷◌}
use mathlib.Core.Logic.{◌⊎◌, inl, inr, ⊎_elim}
use Prim.Native.Nat.{ℕ, zero, suc, ◌+◌, ◌/◌, ◌%◌, ◌^◌, ◌<◌}
use native.Mathlib.Omega.{arith}
use lib.Dec.{ltb, eqb}
use lib.ListN.{length, get_or}
use borrow.Author.Tests.{eq-eqb, ne_eqb, eqb-true, eqb-false, lt-ltb, ltb-true, ltb-false}
use Rattle.laws.specs.Digits.{digits}
use Rattle.laws.proofs.Tests.{never, bool_cases, both_pass}
use Rattle.laws.proofs.Digits.{length_digits, below_at, below_all}
use Rattle.residues.specs.Alphabets.{is_amino, code_limit}
use Rattle.residues.proofs.Alphabets.{limit_most}
use Rattle.packets.specs.Runs.{ends_run, is_five_bit, before_fill, residues, has_residues, only_fill, valid_tailed, inner, final, formed, well_formed}
use Rattle.packets.specs.Rules.{Bit, five_bit_code, WellFormed}
use Rattle.packets.proofs.Packing.{limit_some}
use Rattle.packets.proofs.Codes.{inner-is, final-is, residues_five}
use Rattle.packets.proofs.Round.{formed_well}
use Rattle.packets.proofs.Shapes.{inner_bit, final_bit, inner-valid, final_tailed, two_fifteen}
use Rattle.packets.proofs.Shapes.{inner_nucleic, final_nucleic, well_some, well_inner, well_final}

-- ---- the codes of a packet by their places

code_at : (p j : ℕ) → j < 6 → get_or (digits 5 6 p) j 0 ≡ five_bit_code p j
unfolding digits
code_at p zero h = refl
code_at p (suc zero) h = refl
code_at p (suc (suc zero)) h = refl
code_at p (suc (suc (suc zero))) h = refl
code_at p (suc (suc (suc (suc zero)))) h = refl
code_at p (suc (suc (suc (suc (suc zero))))) h = refl
code_at p (suc (suc (suc (suc (suc (suc j)))))) h = let z : ⊥ = omega arith in absurd z

-- codes that are valid, then only 31, by their places
abbrev EachValid : ℕ → List ℕ → Type 0
EachValid m ds = (j : ℕ) → j < length ds → (get_or ds j 0 < m) ⊎ (get_or ds j 0 ≡ 31)

abbrev FillTails : List ℕ → Type 0
FillTails ds = (i j : ℕ) → i < j → j < length ds → get_or ds i 0 ≡ 31 → get_or ds j 0 ≡ 31

only_at : (ds : List ℕ) → only_fill ds ≡ true → (j : ℕ) → j < length ds → get_or ds j 0 ≡ 31
unfolding only_fill
only_at [] e j h = let z : ⊥ = omega arith in absurd z
only_at (d ∷ ds) e zero h = eqb-true d 31 (both_pass (eqb d 31) (only_fill ds) e).0
only_at (d ∷ ds) e (suc j) h = only_at ds (both_pass (eqb d 31) (only_fill ds) e).1 j (omega arith)

at_only : (ds : List ℕ) → ((j : ℕ) → j < length ds → get_or ds j 0 ≡ 31) → only_fill ds ≡ true
unfolding only_fill
at_only [] h = refl
at_only (d ∷ ds) h = rw (eq-eqb d 31 (h 0 (omega arith))) (at_only ds (λ j l. h (suc j) (omega arith)))

tailed_each : (m : ℕ) (ds : List ℕ) → valid_tailed m ds ≡ true → EachValid m ds
unfolding valid_tailed
tailed_each m [] e j h = let z : ⊥ = omega arith in absurd z
tailed_each m (d ∷ ds) e zero h =
    bool_cases (eqb d 31)
    (λ t. inr (eqb-true d 31 t))
    (λ f. inl (ltb-true d m (both_pass (ltb d m) (valid_tailed m ds) (rw f at e)).0))
tailed_each m (d ∷ ds) e (suc j) h =
    bool_cases (eqb d 31)
    (λ t. let o : only_fill ds ≡ true = rw t at e in inr (only_at ds o j (omega arith)))
    (λ f. tailed_each m ds (both_pass (ltb d m) (valid_tailed m ds) (rw f at e)).1 j (omega arith))

tailed_tails : (m : ℕ) (ds : List ℕ) → valid_tailed m ds ≡ true → FillTails ds
unfolding valid_tailed
tailed_tails m [] e i j l h q = let z : ⊥ = omega arith in absurd z
tailed_tails m (d ∷ ds) e i zero l h q = let z : ⊥ = omega arith in absurd z
tailed_tails m (d ∷ ds) e zero (suc j) l h q = let o : only_fill ds ≡ true = rw (eq-eqb d 31 q) at e in only_at ds o j (omega arith)
tailed_tails m (d ∷ ds) e (suc i) (suc j) l h q =
    bool_cases (eqb d 31)
    (λ t. let o : only_fill ds ≡ true = rw t at e in only_at ds o j (omega arith))
    (λ f. tailed_tails m ds (both_pass (ltb d m) (valid_tailed m ds) (rw f at e)).1 i j (omega arith) (omega arith) q)

each_tailed : (m : ℕ) (ds : List ℕ) → EachValid m ds → FillTails ds → valid_tailed m ds ≡ true
unfolding valid_tailed
each_tailed m [] v t = refl
each_tailed m (d ∷ ds) v t =
    bool_cases (eqb d 31)
    (λ e. rw e (at_only ds (λ j l. t 0 (suc j) (omega arith) (omega arith) (eqb-true d 31 e))))
    (λ e.
    let b : ltb d m ≡ true = ⊎_elim (λ h. lt-ltb d m h) (λ q. absurd (eqb-false d 31 e q)) (v 0 (omega arith)) in
    rw (e, b) (each_tailed m ds (λ j l. v (suc j) (omega arith)) (λ i j l h q. t (suc i) (suc j) (omega arith) (omega arith) q)))

-- no residues: the first code is 31
none_first : (ds : List ℕ) → 0 < length ds → length (before_fill ds) ≡ 0 → get_or ds 0 0 ≡ 31
unfolding before_fill
none_first [] h e = let z : ⊥ = omega arith in absurd z
none_first (d ∷ ds) h e =
    bool_cases (eqb d 31) (λ t. eqb-true d 31 t)
    (λ f. let z : length (d ∷ before_fill ds) ≡ 0 = rw f at e in let y : ⊥ = omega arith in absurd y)

first-none : (ds : List ℕ) → 0 < length ds → get_or ds 0 0 ≡ 31 → length (before_fill ds) ≡ 0
unfolding before_fill
first-none [] h e = let z : ⊥ = omega arith in absurd z
first-none (d ∷ ds) h e = rw (eq-eqb d 31 e)

-- a last packet without residues is the whole run
formed-whole : (a : ℕ) (w : Bool) (ps : List ℕ) (k : ℕ) → formed a w ps ≡ true → k + 1 ≡ length ps → length (residues (get_or ps k 0)) ≡ 0 → (w ≡ true) ×
    (length ps ≡ 1)
unfolding formed
formed-whole a w [] k e h n = never e
formed-whole a true (p ∷ []) zero e h n = (refl, refl)
formed-whole a false (p ∷ []) zero e h n =
    let s = ltb-true 0 (length (residues p)) (both_pass (final a p) (has_residues p) e).1 in
    let z : ⊥ = omega arith in absurd z
formed-whole a w (p ∷ []) (suc k) e h n = let z : ⊥ = omega arith in absurd z
formed-whole a w (p ∷ q ∷ ps) zero e h n = let z : ⊥ = omega arith in absurd z
formed-whole a w (p ∷ q ∷ ps) (suc k) e h n =
    never (formed-whole a false (q ∷ ps) k (both_pass (inner a p) (formed a false (q ∷ ps)) e).1 (omega arith) n).0

formed-all : (a : ℕ) (w : Bool) (ps : List ℕ) → 0 < length ps → ((k : ℕ) → k + 1 < length ps → inner a (get_or ps k 0) ≡ true)
    → ((k : ℕ) → k + 1 ≡ length ps → final a (get_or ps k 0) ≡ true)
    → ((k : ℕ) → k + 1 ≡ length ps → (w ≡ true → ⊥) ⊎ (1 < length ps) → has_residues (get_or ps k 0) ≡ true) → formed a w ps ≡ true
unfolding formed
formed-all a w [] h i f s = let z : ⊥ = omega arith in absurd z
formed-all a true (p ∷ []) h i f s = rw (f 0 (omega arith))
formed-all a false (p ∷ []) h i f s = rw (f 0 (omega arith)) (s 0 (omega arith) (inl (λ e. never e)))
formed-all a w (p ∷ q ∷ ps) h i f s =
    rw (i 0 (omega arith))
    (formed-all a false (q ∷ ps) (omega arith) (λ k l. i (suc k) (omega arith)) (λ k l. f (suc k) (omega arith))
    (λ k l x. s (suc k) (omega arith) (inr (omega arith))))

-- ---- the rules of a well-formed run

module _ (a : ℕ) (ps : List ℕ) (e : well_formed a ps ≡ true) where
  place : (k : ℕ) → k < length ps → (k + 1 ≡ length ps) ⊎ (k + 1 < length ps)
  place k h = go (ltb (k + 1) (length ps)) refl
    where
      go : (b : Bool) → ltb (k + 1) (length ps) ≡ b → (k + 1 ≡ length ps) ⊎ (k + 1 < length ps)
      go true t = inr (ltb-true (k + 1) (length ps) t)
      go false t = inl (omega (arith, ltb-false (k + 1) (length ps) t))

  code : (k j : ℕ) → j < 6 → five_bit_code (get_or ps k 0) j ≡ get_or (digits 5 6 (get_or ps k 0)) j 0
  code k j h = sym (code_at (get_or ps k 0) j h)

  five : (k : ℕ) → Bit 30 (get_or ps k 0) → is_five_bit (get_or ps k 0) ≡ true
  five k b = eq-eqb (get_or ps k 0 / 2 ^ 30 % 2) 1 b

  inner_code : (k j : ℕ) → k + 1 < length ps → Bit 30 (get_or ps k 0) → j < 6 → five_bit_code (get_or ps k 0) j < code_limit a
  inner_code k j l b h =
      rw (code k j h) (below_at (code_limit a) j (digits 5 6 (get_or ps k 0)) (limit_some a) (inner-valid a (get_or ps k 0) (five k b) (well_inner a ps e k l)))

  last_tailed : (k : ℕ) → k + 1 ≡ length ps → Bit 30 (get_or ps k 0) → valid_tailed (code_limit a) (digits 5 6 (get_or ps k 0)) ≡ true
  last_tailed k l b = final_tailed a (get_or ps k 0) (five k b) (well_final a ps e k l)

  not_fill : (k j : ℕ) → k + 1 < length ps → Bit 30 (get_or ps k 0) → j < 6 → five_bit_code (get_or ps k 0) j ≡ 31 → ⊥
  not_fill k j l b h q = omega (arith, inner_code k j l b h, limit_most a, q)

  six : (p : ℕ) → length (digits 5 6 p) ≡ 6
  six p = length_digits 5 6 p

  amino_bit : a ≡ 3 → (k : ℕ) → k < length ps → Bit 30 (get_or ps k 0)
  amino_bit q k h =
      bool_cases (is_five_bit (get_or ps k 0))
      (λ t. eqb-true (get_or ps k 0 / 2 ^ 30 % 2) 1 t)
      (λ t. never (sym (⊎_elim (λ l. final_nucleic (get_or ps k 0) t a (well_final a ps e k l)) (λ l. inner_nucleic (get_or ps k 0) t a (well_inner a ps e k l))
      (place k h)) ∙ eq-eqb a 3 q))

  -- A well-formed run keeps the rules.
  pub formed_rules : WellFormed a ps
  formed_rules = record {
    has_packet = well_some a ps e;
    last_ends = λ k h. eqb-true (get_or ps k 0 / 2 ^ 31 % 2) 1 (final_bit a (get_or ps k 0) (well_final a ps e k h));
    others_go_on = λ k h b. eqb-false (get_or ps k 0 / 2 ^ 31 % 2) 1 (inner_bit a (get_or ps k 0) (well_inner a ps e k h)) b;
    amino_five_bit = amino_bit;
    codes_valid = λ k j h b l.
        ⊎_elim
        (λ m. rw (code k j l) (tailed_each (code_limit a) (digits 5 6 (get_or ps k 0)) (last_tailed k m b) j (rw (six (get_or ps k 0)) l)))
        (λ m. inl (inner_code k j m b l))
        (place k h);
    fill_last = λ k j h b l q. ⊎_elim (λ m. m) (λ m. absurd (not_fill k j m b l q)) (place k h);
    fill_tail = λ k i j h b l m q.
        ⊎_elim
        (λ n. rw (code k j m)
        (tailed_tails (code_limit a) (digits 5 6 (get_or ps k 0)) (last_tailed k n b) i j l (rw (six (get_or ps k 0)) m) (sym (code k i (omega arith)) ∙ q)))
        (λ n. absurd (not_fill k i n b (omega arith) q))
        (place k h);
    none_whole = λ k h b q.
        ⊎_elim
        (λ n. (formed-whole a true ps k (sym (formed_well a ps) ∙ e) n
        (ap length (residues_five (get_or ps k 0) (five k b)) ∙ first-none (digits 5 6 (get_or ps k 0)) (rw (six (get_or ps k 0)) (omega arith))
        (sym (code k 0 (omega arith)) ∙ q))).1)
        (λ n. absurd (not_fill k 0 n b (omega arith) q))
        (place k h);
  }

-- ---- and back

module _ (a : ℕ) (ps : List ℕ) (r : WellFormed a ps) where
  two_nucleic : (k : ℕ) → k < length ps → is_five_bit (get_or ps k 0) ≡ false → not (is_amino a) ≡ true
  two_nucleic k h t =
      bool_cases (is_amino a)
      (λ m. absurd (eqb-false (get_or ps k 0 / 2 ^ 30 % 2) 1 t (r.amino_five_bit (eqb-true a 3 m) k h)))
      (λ m. rw m)

  back_inner : (k : ℕ) → k + 1 < length ps → inner a (get_or ps k 0) ≡ true
  back_inner k h =
      let p = get_or ps k 0 in
      let n : ends_run p ≡ false = ne_eqb (p / 2 ^ 31 % 2) 1 (r.others_go_on k h) in
      bool_cases (is_five_bit p)
      (λ f.
      let b : Bit 30 p = eqb-true (p / 2 ^ 30 % 2) 1 f in
      rw (inner-is, n, f) (below_all (code_limit a) (digits 5 6 p) (λ j l.
      let i : j < 6 = rw (length_digits 5 6 p) at l in
      rw (code_at p j i) (⊎_elim (λ x. x) (λ q. let z : ⊥ = omega (arith, r.fill_last k j (omega arith) b i q) in absurd z)
      (r.codes_valid k j (omega arith) b i)))))
      (λ t. rw (inner-is, n, t) (two_nucleic k (omega arith) t))

  back_final : (k : ℕ) → k + 1 ≡ length ps → final a (get_or ps k 0) ≡ true
  back_final k h =
      let p = get_or ps k 0 in
      let n : ends_run p ≡ true = eq-eqb (p / 2 ^ 31 % 2) 1 (r.last_ends k h) in
      bool_cases (is_five_bit p)
      (λ f.
      let b : Bit 30 p = eqb-true (p / 2 ^ 30 % 2) 1 f in
      rw (final-is, n, f) (each_tailed (code_limit a) (digits 5 6 p)
      (λ j l. let i : j < 6 = rw (length_digits 5 6 p) at l in rw (code_at p j i) (r.codes_valid k j (omega arith) b i))
      (λ i j l m q.
      let v : j < 6 = rw (length_digits 5 6 p) at m in
      code_at p j v ∙ r.fill_tail k i j (omega arith) b l v (sym (code_at p i (omega arith)) ∙ q))))
      (λ t. rw (final-is, n, t) (two_nucleic k (omega arith) t))

  back_some : (k : ℕ) → k + 1 ≡ length ps → 1 < length ps → has_residues (get_or ps k 0) ≡ true
  back_some k h m =
      let p = get_or ps k 0 in
      bool_cases (is_five_bit p)
      (λ f.
      bool_cases (has_residues p) (λ s. s)
      (λ s.
      let z : length (before_fill (digits 5 6 p)) ≡ 0 = sym (ap length (residues_five p f)) ∙
      (let y : length (residues p) ≡ 0 = omega (arith, ltb-false 0 (length (residues p)) s) in y) in
      let b : Bit 30 p = eqb-true (p / 2 ^ 30 % 2) 1 f in
      let q : five_bit_code p 0 ≡ 31 = sym (code_at p 0 (omega arith)) ∙ none_first (digits 5 6 p) (rw (length_digits 5 6 p) (omega arith)) z in
      let y : ⊥ = omega (arith, r.none_whole k (omega arith) b q) in absurd y))
      (λ t. lt-ltb 0 (length (residues p)) (omega (arith, two_fifteen p t)))

  -- A run that keeps the rules is well formed.
  pub rules_formed : well_formed a ps ≡ true
  rules_formed =
      formed_well a ps
      ∙ formed-all a true ps r.has_packet back_inner back_final
      (λ k h x. ⊎_elim (λ n. absurd (n refl)) (λ m. back_some k h m) x)
