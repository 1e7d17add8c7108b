-- Bodies of lists of sequences, and lists of packing calls. Assumes nothing.
use mathlib.Core.Path.{◌≡◌, refl, sym, ap, ap₂, ◌∙◌}
use mathlib.Core.Bool.{true}
use mathlib.Core.List.{List, [], ◌∷◌, ◌++◌, append_assoc, append-nil}
use Prim.Native.Nat.{ℕ, ◌+◌, ◌≤◌, ◌<◌}
use native.Mathlib.Nat.{add-zero}
use native.Mathlib.Omega.{arith}
use lib.ListN.{length, take, drop, length-append, length-drop}
use lib.Seq.{take_at, drop-append-add, drop-drop}
use Rattle.laws.specs.Writing.{written_at}
use Rattle.answers.specs.declared.Refusal.{Refusal}
use Rattle.residues.specs.Alphabets.{valid_codes}
use Rattle.packets.specs.Packing.{run}
use Rattle.packets.specs.Runs.{unpacked}
use Rattle.packets.proofs.Packing.{run-some}
use Rattle.packets.proofs.Round.{run-formed, unpacked-run, formed_well}
use Rattle.packets.proofs.Ends.{cut}
use Rattle.runs.specs.Answers.{pack_answer}
use Rattle.runs.specs.Bodies.{Item, body, sequences_of, AllValid, Begins, if_taken, after_each, packed_by}
use Rattle.runs.specs.Bodies.{Buffer, call_answer, after_call, after_calls, packed_of, Holds}
use Rattle.std.specs.Prelude.{Result, Ok, Err}
use Rattle.runs.specs.declared.RunSize.{RunSize}
use Rattle.runs.proofs.Answers.{packed_may, pack_done, packets_kept, packets_written}

-- equal beginnings: the first sequences and what follows are equal
split_body : (s s' : Item) (t t' : List ℕ) → valid_codes s.alphabet s.codes ≡ true → valid_codes s'.alphabet s'.codes ≡ true
    → run s.alphabet s.codes ++ t ≡ run s'.alphabet s'.codes ++ t' → (s.codes ≡ s'.codes) × (t ≡ t')
split_body s s' t t' v v' e =
    let a = s.alphabet in
    let b = s'.alphabet in
    let R = run a s.codes in
    let R' = run b s'.codes in
    let r = cut a b true true R R' t t' (sym (formed_well a R) ∙ run-formed a s.codes v) (sym (formed_well b R') ∙ run-formed b s'.codes v') e in
    (sym (unpacked-run a s.codes v) ∙ (ap unpacked r.0 ∙ unpacked-run b s'.codes v'), r.1)

-- a body with a sequence has a packet
body-some : (s : Item) (ss : List Item) → 0 < length (body (s ∷ ss))
body-some s ss = omega (arith, length-append (run s.alphabet s.codes) (body ss), run-some s.alphabet s.codes)

-- If the body of the first list begins the body of the second, the first list begins the second, residue for residue.
pub body_prefix : (ss ts : List Item) → AllValid ss → AllValid ts → Begins (body ss) (body ts) → Begins (sequences_of ss) (sequences_of ts)
body_prefix [] ts v v' p = (sequences_of ts, refl)
body_prefix (s ∷ ss) [] v v' p =
    let z : ⊥ = omega (arith, ap length p.1, length-append (body (s ∷ ss)) p.0, body-some s ss) in absurd z
body_prefix (s ∷ ss) (t ∷ ts) v v' p =
    let R = run s.alphabet s.codes in
    let e : R ++ (body ss ++ p.0) ≡ run t.alphabet t.codes ++ body ts = sym (append_assoc R (body ss) p.0) ∙ p.1 in
    let r = split_body s t (body ss ++ p.0) (body ts) v.0 v'.0 e in
    let q = body_prefix ss ts v.1 v'.1 (p.0, r.1) in
    (q.0, ap₂ (λ (x : List ℕ) (l : List (List ℕ)). x ∷ l) r.0 q.1)

-- Equal bodies mean equal lists.
pub body_injective : (ss ts : List Item) → AllValid ss → AllValid ts → body ss ≡ body ts → sequences_of ss ≡ sequences_of ts
body_injective [] [] v v' e = refl
body_injective [] (t ∷ ts) v v' e = let z : ⊥ = omega (arith, ap length e, body-some t ts) in absurd z
body_injective (s ∷ ss) [] v v' e = let z : ⊥ = omega (arith, ap length e, body-some s ss) in absurd z
body_injective (s ∷ ss) (t ∷ ts) v v' e =
    let r = split_body s t (body ss) (body ts) v.0 v'.0 e in
    ap₂ (λ (x : List ℕ) (l : List (List ℕ)). x ∷ l) r.0 (body_injective ss ts v.1 v'.1 r.1)

-- ---- a list of packing calls

-- what an answer of packing says
pub packed_means : (a : ℕ) (cs : List ℕ) (room place : ℕ) (size : RunSize) → pack_answer a cs room place ≡ Ok size
    → (size.packets ≡ length (run a cs)) × (place + length (run a cs) ≤ room)
packed_means a cs room place size e =
    let m = packed_may a cs room place size e in
    let f = sym (pack_done a cs room place m) ∙ e in
    let g : size.packets ≡ length (run a cs) = cc in
    (g, m.fits)

-- A range begins with `start` and goes on as the range `first`. With a list written behind `start` it begins with both and goes on as `first`.
pub written_behind : (first start new range : List ℕ) → range ≡ start ++ drop (length start) first
    → written_at (length start) new range ≡ (start ++ new) ++ drop (length start + length new) first
written_behind first start new range e =
    let t : take (length start) range ≡ start = rw e (take_at start (drop (length start) first) (length start) refl) in
    let d : drop (length start + length new) range ≡ drop (length start + length new) first =
    rw e (drop-append-add start (drop (length start) first) (length new) ∙ drop-drop (length new) (length start) first) in
    rw (t, d)

-- such a range is as long as `first`
pub length-behind : (first start range : List ℕ) → range ≡ start ++ drop (length start) first → length start ≤ length first → length range ≡ length first
length-behind first start range e h =
    ap length e ∙ (length-append start (drop (length start) first) ∙ omega (arith, length-drop (length start) first))

-- Calls of any kind, over any kind of buffer: `Has packets buffer` says what a buffer has. Where a call that packs adds its run, and a refused one
-- adds nothing, a list of calls adds the body of the sequences packed.
module _ {B C : Type 0} (item : C → Item) (answer : B → C → Result RunSize Refusal) (after : B → C → B) (Has : List ℕ → B → Type 0)
    (packs : (ps : List ℕ) (b : B) (c : C) (size : RunSize) → Has ps b → answer b c ≡ Ok size → Has (ps ++ run (item c).alphabet (item c).codes) (after b c))
    (refuses : (ps : List ℕ) (b : B) (c : C) (r : Refusal) → Has ps b → answer b c ≡ Err r → Has ps (after b c)) where
  one_call : (ps : List ℕ) (b : B) (c : C) (more : List Item) (x : Result RunSize Refusal) → answer b c ≡ x → Has ps b
      → (qs : List ℕ) × Has qs (after b c) × (ps ++ body (if_taken x (item c) more) ≡ qs ++ body more)
  one_call ps b c more (Ok size) e h =
      let R = run (item c).alphabet (item c).codes in
      (ps ++ R, packs ps b c size h e, sym (append_assoc ps R (body more)))
  one_call ps b c more (Err r) e h = (ps, refuses ps b c r h e, refl)

  pub calls_add : (ps : List ℕ) (b : B) (calls : List C) → Has ps b → Has (ps ++ body (packed_by item answer after b calls)) (after_each after b calls)
  calls_add ps b [] h = rw append-nil h
  calls_add ps b (c ∷ calls) h =
      let s = one_call ps b c (packed_by item answer after (after b c) calls) (answer b c) refl h in
      rw s.2 (calls_add s.0 (after b c) calls s.1)

-- ---- calls of `pack`

call_packs : (first ps : List ℕ) (b : Buffer) (s : Item) (size : RunSize) → Holds first ps b → call_answer b s ≡ Ok size
    → Holds first (ps ++ run s.alphabet s.codes) (after_call b s)
call_packs first ps b s size h e =
    let R = run s.alphabet s.codes in
    let m = packed_means s.alphabet s.codes (length b.packets) b.place size e in
    let len = length-behind first ps b.packets h.packets_are h.within in
    record {
      within = omega (arith, length-append ps R, h.place_is);
      place_is = rw e (omega (arith, length-append ps R, h.place_is));
      packets_are =
          packets_written s.alphabet s.codes b.packets b.place size e
          ∙ rw (h.place_is, length-append) (written_behind first ps R b.packets h.packets_are);
    }

call_refuses : (first ps : List ℕ) (b : Buffer) (s : Item) (r : Refusal) → Holds first ps b → call_answer b s ≡ Err r → Holds first ps (after_call b s)
call_refuses first ps b s r h e = record {
  within = h.within;
  place_is = rw (e, add-zero) h.place_is;
  packets_are = packets_kept s.alphabet s.codes b.packets b.place r e ∙ h.packets_are;
}

-- After any list of packing calls, refused ones included, that starts at place 0 of any packet buffer, the packets before the place
-- reached are exactly the body of the sequences packed, in that order, and all others are as at first.
pub calls_body : (ps : List ℕ) (ss : List Item) →
    let b : Buffer = record { packets = ps; place = 0 } in
    Holds ps (body (packed_of b ss)) (after_calls b ss)
calls_body ps ss =
    calls_add (λ s. s) call_answer after_call (Holds ps) (call_packs ps) (call_refuses ps) [] (record { packets = ps; place = 0 }) ss
    (record { within = omega arith; place_is = refl; packets_are = refl })
