-- The parts of demand 3 that are about a set. Assumes nothing.
use mathlib.Core.Path.{◌≡◌, refl, sym, ap, ◌∙◌}
use mathlib.Core.Bool.{true}
use mathlib.Core.List.{List, [], ◌∷◌, ◌++◌}
use Prim.Native.Nat.{ℕ, zero, suc, ◌<◌}
use native.Mathlib.Omega.{arith}
use lib.IntN.{ℤ, negsuc}
use lib.ListN.{length}
use lib.Signed.{◌<ℤ◌}
use Rattle.laws.specs.Places.{list_to}
use Rattle.laws.specs.Rules.{AllHold}
use Rattle.fields.specs.declared.Order.{Order}
use Rattle.packets.specs.Runs.{well_formed}
use Rattle.packets.specs.Ends.{last_place, between, MakesAfter, Makes}
use Rattle.packets.proofs.Ends.{ends_unique, ends_same}
use Rattle.dsqdata.specs.Header.{set_order, alphabet_of, count_of, packets_in, body_of}
use Rattle.dsqdata.specs.Ends.{packet_table, end_before, packet_ends, run_at}
use Rattle.dsqdata.specs.Check.{packet_ends_rules, rules_of_run, set_run_rules, other_rules, set_check, set_number}
use Rattle.dsqdata.specs.Rules.{EndsRule, OtherRules}
use Rattle.dsqdata.proofs.EachRule.{rules_at, rules_all}
use Rattle.dsqdata.proofs.Bodies.{body-length}
use Rattle.dsqdata.proofs.Rising.{end_zero, ends_rule, rule_ends}
use Rattle.dsqdata.proofs.SetRules.{run_rule, rule_run, others_rule, rule_others, parts_hold, hold_parts, zero-all, all-zero}

-- ---- ends and runs together make a body well formed

list_to-front : (f : ℕ → ℤ) (n : ℕ) → list_to f (suc n) ≡ f 0 ∷ list_to (λ k. f (suc k)) n
list_to-front f zero = refl
list_to-front f (suc n) = ap (λ (l : List ℤ). l ++ (f (suc n) ∷ [])) (list_to-front f n)

module _ (a : ℕ) (body : List ℕ) where
  -- ends E 1, E 2, .. after E 0: each rises, the last is the body's last place, and each run between is well formed
  record Between (E : ℕ → ℤ) (n : ℕ) : Type 0 where
    rises : (k : ℕ) → k < n → E k <ℤ E (suc k)
    runs : (k : ℕ) → k < n → well_formed a (between body (E k) (E (suc k))) ≡ true
    last : E n ≡ last_place (length body)

  between_makes : (E : ℕ → ℤ) (n : ℕ) → Between E n → MakesAfter a body (E 0) (list_to (λ k. E (suc k)) n)
  between_makes E zero b = b.last
  between_makes E (suc n) b =
      rw (list_to-front (λ k. E (suc k)) n) (
        b.rises 0 (omega arith),
        b.runs 0 (omega arith),
        between_makes (λ k. E (suc k)) n
            (record { rises = λ k l. b.rises (suc k) (omega arith); runs = λ k l. b.runs (suc k) (omega arith); last = b.last }),
      )

  makes_between : (E : ℕ → ℤ) (n : ℕ) → MakesAfter a body (E 0) (list_to (λ k. E (suc k)) n) → Between E n
  makes_between E zero h = record { rises = λ k l. absurd (none k l); runs = λ k l. absurd (none k l); last = h }
    where
      none : (k : ℕ) → k < 0 → ⊥
      none k l = omega arith
  makes_between E (suc n) h =
      let g = rw (list_to-front (λ k. E (suc k)) n) at h in
      let b = makes_between (λ k. E (suc k)) n g.2 in
      record { rises = λ k l. first k l g.0 b.rises; runs = λ k l. second k l g.1 b.runs; last = b.last }
    where
      first : (k : ℕ) → k < suc n → E 0 <ℤ E 1 → ((j : ℕ) → j < n → E (suc j) <ℤ E (suc (suc j))) → E k <ℤ E (suc k)
      first zero l x f = x
      first (suc k) l x f = f k (omega arith)

      second : (k : ℕ) → k < suc n → well_formed a (between body (E 0) (E 1)) ≡ true
          → ((j : ℕ) → j < n → well_formed a (between body (E (suc j)) (E (suc (suc j)))) ≡ true) → well_formed a (between body (E k) (E (suc k))) ≡ true
      second zero l x f = x
      second (suc k) l x f = f k (omega arith)

module _ (order : Order) (i s : List ℕ) where
  -- The rules of the packet ends and of the runs together say that the packet ends make the body well formed.
  pub rules_make : AllHold (packet_ends_rules order i s) → AllHold (set_run_rules order i s) → Makes (alphabet_of order i) (body_of order s) (packet_ends order i)
  unfolding run_at
  rules_make e b =
      let r = ends_rule order i packet_table (count_of order i) (packets_in s) e in
      rw (end_zero order i packet_table 0 refl) at
      (between_makes (alphabet_of order i) (body_of order s) (end_before order i packet_table) (count_of order i)
      (record {
        rises = r.rises;
        runs = λ k l. run_rule (alphabet_of order i) (run_at order i s k) (rules_at (λ j. rules_of_run (alphabet_of order i) (run_at order i s j)) (count_of order i) k l b);
        last = rw (body-length order s) r.last;
      }))

  pub make_rules : Makes (alphabet_of order i) (body_of order s) (packet_ends order i) → AllHold (packet_ends_rules order i s) × AllHold (set_run_rules order i s)
  unfolding run_at
  make_rules h =
      let b = makes_between (alphabet_of order i) (body_of order s) (end_before order i packet_table) (count_of order i) (rw (end_zero order i packet_table 0 refl) h) in (
        rule_ends order i packet_table (count_of order i) (packets_in s) (ends-from b),
        rules_all (λ j. rules_of_run (alphabet_of order i) (run_at order i s j)) (count_of order i) (λ k l. rule_run (alphabet_of order i) (run_at order i s k) (b.runs k l)),
      )
    where
      ends-from : Between (alphabet_of order i) (body_of order s) (end_before order i packet_table) (count_of order i) → EndsRule order i packet_table (count_of order i) (packets_in s)
      ends-from b =
          let e : end_before order i packet_table (count_of order i) ≡ last_place (packets_in s) = rw (body-length order s) at b.last in
          record {
            first = end_zero order i packet_table 0 refl;
            rises = b.rises;
            last = e;
            none = λ z. no_places (packets_in s) (sym (end_zero order i packet_table (count_of order i) z) ∙ e);
          }
        where
          no_places : (n : ℕ) → negsuc 0 ≡ last_place n → n ≡ 0
          no_places zero q = refl
          no_places (suc n) q = absurd (let z : ◌≡◌ {A = ℕ} 0 1 = cc in omega arith)

-- ---- demand 3, part (d)

module _ (i m s : List ℕ) where
  -- A set passes only if its packet ends make its body well formed in its alphabet and it breaks no other rule, in the order that its index shows ..
  pub passes_makes : let order = set_order i in
      set_number (set_check i m s) ≡ 0 → Makes (alphabet_of order i) (body_of order s) (packet_ends order i) × OtherRules order i m s
  passes_makes h =
      let p = parts_hold (set_order i) i m s (zero-all i m s h) in
      (rules_make (set_order i) i s p.1 p.2, others_rule (set_order i) i m s p.0)

  -- .. and it passes if they do and it breaks none, in either order.
  pub makes_passes : (order : Order) → Makes (alphabet_of order i) (body_of order s) (packet_ends order i) → OtherRules order i m s → set_number (set_check i m s) ≡ 0
  makes_passes order h r =
      let p = make_rules order i s h in
      (all-zero i m s order (hold_parts order i m s (rule_others order i m s r) p.0 p.1)).0

  -- The same with the other rules as the check's list has them.
  pub passes-list : let order = set_order i in
      set_number (set_check i m s) ≡ 0 → Makes (alphabet_of order i) (body_of order s) (packet_ends order i) × AllHold (other_rules order i m s)
  passes-list h =
      let p = parts_hold (set_order i) i m s (zero-all i m s h) in
      (rules_make (set_order i) i s p.1 p.2, p.0)

  pub list-passes : (order : Order) → Makes (alphabet_of order i) (body_of order s) (packet_ends order i) → AllHold (other_rules order i m s)
      → set_number (set_check i m s) ≡ 0
  list-passes order h r =
      let p = make_rules order i s h in
      (all-zero i m s order (hold_parts order i m s r p.0 p.1)).0

  -- ---- demand 3, part (e)

  -- An index passes over a body only if every run ends where the index says: ends that make the body well formed are the index's packet ends.
  pub passes-ends : let order = set_order i in
      set_number (set_check i m s) ≡ 0 → (ends : List ℤ) → Makes (alphabet_of order i) (body_of order s) ends → packet_ends order i ≡ ends
  passes-ends h ends e = ends_unique (alphabet_of (set_order i) i) (body_of (set_order i) s) (packet_ends (set_order i) i) ends (passes_makes h).0 e

-- An old index passes over a new body only if every run ends where it did: it then has the packet ends of the new index, over which the same
-- body passes, in whichever order each is written.
pub old_index : (old m s new m' s' : List ℕ) → set_number (set_check old m s) ≡ 0 → set_number (set_check new m' s') ≡ 0
    → body_of (set_order old) s ≡ body_of (set_order new) s' → packet_ends (set_order old) old ≡ packet_ends (set_order new) new
old_index old m s new m' s' h g f =
    ends_same (alphabet_of (set_order old) old) (alphabet_of (set_order new) new) (body_of (set_order old) s) (packet_ends (set_order old) old)
    (packet_ends (set_order new) new) (passes_makes old m s h).0 (rw f (passes_makes new m' s' g).0)
