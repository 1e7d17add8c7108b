-- Valid residues give a well-formed run that unpacks to them. Assumes nothing.
use mathlib.Core.Path.{◌≡◌, refl, ◌∙◌}
use mathlib.Core.Bool.{Bool, true, false, cond, ◌&&◌}
use mathlib.Core.List.{List, [], ◌∷◌, ◌++◌, append-nil}
use Prim.Native.Nat.{ℕ, zero, suc, ◌^◌, ◌≤◌, ◌<◌}
use native.Mathlib.Omega.{arith}
use lib.Dec.{leb, ltb}
use lib.ListN.{length, drop, length-drop, take-append-drop}
use lib.Seq.{take_all}
use borrow.Author.Tests.{lt-ltb, leb-true, leb-false}
use Rattle.laws.specs.Digits.{all_below}
use Rattle.laws.proofs.Tests.{bool_cases}
use Rattle.laws.proofs.Digits.{below_none, below-cons, below-drop}
use Rattle.residues.specs.Alphabets.{code_limit, valid_codes}
use Rattle.residues.proofs.Alphabets.{valid-below}
use Rattle.packets.specs.Packing.{size, packet, run}
use Rattle.packets.specs.Runs.{residues, has_residues, inner, final, formed, well_formed, unpacked}
use Rattle.packets.proofs.Packing.{size-some, packet-below, run-last, run_more}
use Rattle.packets.proofs.Packed.{packet-final, packet-inner, packet-residues}

pub formed-one : (a : ℕ) (w : Bool) (p : ℕ) → formed a w (p ∷ []) ≡ (final a p && cond w true (has_residues p))
unfolding formed
formed-one a w p = refl

pub formed_well : (a : ℕ) (ps : List ℕ) → well_formed a ps ≡ formed a true ps
unfolding well_formed
formed_well a ps = refl

formed-before : (a : ℕ) (w : Bool) (p : ℕ) (xs : List ℕ) → formed a w (p ∷ run a xs) ≡ (inner a p && formed a false (run a xs))
unfolding formed run
formed-before a w p xs = refl

pub unpacked-cons : (p : ℕ) (ps : List ℕ) → unpacked (p ∷ ps) ≡ residues p ++ unpacked ps
unfolding unpacked
unpacked-cons p ps = refl

pub unpacked-nil : unpacked [] ≡ []
unfolding unpacked
unpacked-nil = refl

-- An argument packet by packet over the run of a sequence: what holds of a run that ends, and of a packet before a run. Q is known of the
-- sequence, and then of all that is left of it. n is at least the number of residues.
module _ (a : ℕ) (Q : List ℕ → Type 0) (left : (k : ℕ) (cs : List ℕ) → Q cs → Q (drop k cs)) (P : List ℕ → List ℕ → Type 0)
    (ends : (cs : List ℕ) → Q cs → length cs ≤ size a cs → P cs (packet a cs ∷ []))
    (goes : (cs : List ℕ) → Q cs → size a cs < length cs → P (drop (size a cs) cs) (run a (drop (size a cs) cs)) → P cs
    (packet a cs ∷ run a (drop (size a cs) cs))) where
  by_packets : (n : ℕ) (cs : List ℕ) → length cs ≤ n → Q cs → P cs (run a cs)
  by_packets zero cs l q = let h : length cs ≤ size a cs = omega arith in rw (run-last a cs h) (ends cs q h)
  by_packets (suc n) cs l q =
      bool_cases (leb (length cs) (size a cs))
      (λ e. let h : length cs ≤ size a cs = leb-true (length cs) (size a cs) e in rw (run-last a cs h) (ends cs q h))
      (λ e.
      let h : size a cs < length cs = leb-false (length cs) (size a cs) e in
      let d = length-drop (size a cs) cs in
      let some = size-some a cs (omega arith) in
      rw (run_more a cs h) (goes cs q h (by_packets n (drop (size a cs) cs) (omega arith) (left (size a cs) cs q))))

  pub packets-run : (cs : List ℕ) → Q cs → P cs (run a cs)
  packets-run cs q = by_packets (length cs) cs (omega arith) q

-- Valid residues give a well-formed run.
pub run-formed : (a : ℕ) (cs : List ℕ) → valid_codes a cs ≡ true → well_formed a (run a cs) ≡ true
run-formed a cs v =
    formed_well a (run a cs)
    ∙ packets-run a (λ xs. valid_codes a xs ≡ true) (below-drop (code_limit a)) (λ xs ps. (w : Bool) → cond w true (ltb 0 (length xs)) ≡ true → formed a w ps ≡ true)
    (λ xs ok h w s. rw (formed-one, packet-final a xs ok h, packet-residues a xs ok, take_all (size a xs) xs h) s)
    (λ xs ok h rec w s.
    rw (formed-before, packet-inner a xs ok h) (rec false (lt-ltb 0 (length (drop (size a xs) xs)) (omega (arith, length-drop (size a xs) xs)))))
    cs v true refl

-- It unpacks to them.
pub unpacked-run : (a : ℕ) (cs : List ℕ) → valid_codes a cs ≡ true → unpacked (run a cs) ≡ cs
unpacked-run a cs v =
    packets-run a (λ xs. valid_codes a xs ≡ true) (below-drop (code_limit a)) (λ xs ps. unpacked ps ≡ xs)
    (λ xs ok h. rw (unpacked-cons, unpacked-nil, append-nil, packet-residues a xs ok) (take_all (size a xs) xs h))
    (λ xs ok h rec. rw (unpacked-cons, packet-residues a xs ok, rec) (take-append-drop (size a xs) xs))
    cs v

-- Every packet of it is below 2^32.
pub run-below : (a : ℕ) (cs : List ℕ) → valid_codes a cs ≡ true → all_below (2 ^ 32) (run a cs) ≡ true
run-below a cs v =
    packets-run a (λ xs. valid_codes a xs ≡ true) (below-drop (code_limit a)) (λ xs ps. all_below (2 ^ 32) ps ≡ true)
    (λ xs ok h. below-cons (2 ^ 32) (packet a xs) [] (packet-below a xs (length xs) (valid-below a xs ok)) (below_none (2 ^ 32)))
    (λ xs ok h rec. below-cons (2 ^ 32) (packet a xs) (run a (drop (size a xs) xs)) (packet-below a xs (length xs) (valid-below a xs ok)) rec)
    cs v
