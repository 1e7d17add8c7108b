-- Both parts written side by side: so many of the two-bit bytes, and so many of the entries. Assumes nothing.
use mathlib.Core.Path.{◌≡◌, sym, ap, ◌∙◌}
use mathlib.Core.List.{List, [], ◌++◌}
use Prim.Native.Nat.{ℕ, ◌+◌, ◌*◌, ◌-◌, ◌≤◌}
use native.Mathlib.Nat.{mul-add, mul-le-mul_left}
use native.Mathlib.Omega.{arith}
use lib.ListN.{length, take, drop, length-append, length-drop}
use lib.Seq.{length-take-le, take-add, take-length}
use Rattle.laws.specs.Writing.{written_at}
use Rattle.laws.proofs.Storing.{store_none, written_apart}
use Rattle.laws.proofs.Writing.{written_twice, length_written}
use Rattle.sequence.specs.declared.Correction.{Correction}
use Rattle.nucleotides.specs.Table.{entry_bytes, word_bytes, word_size, table_bytes}
use Rattle.nucleotides.proofs.Entries.{length-entries, entries-append, length_word}

module _ (w place : ℕ) (cs : List Correction) (old : List ℕ) where
  abbrev N : ℕ
  N = length cs

  -- the first e entries
  abbrev front : ℕ → List ℕ
  front e = entry_bytes w (take e cs)

  -- some two-bit bytes at the start, and these entries from a place on
  abbrev pub both : List ℕ → ℕ → List ℕ
  both bytes e = written_at place (front e) (written_at 0 bytes old)

  length_front : (e : ℕ) → e ≤ N → length (front e) ≡ w * e
  length_front e h = length-entries w (take e cs) ∙ ap (λ (n : ℕ). w * n) (length-take-le e cs h)

  pub both_none : old ≡ both [] 0
  both_none = store_none (λ (k : ℕ). k) 0 old ∙ store_none (λ (k : ℕ). k) place (written_at 0 [] old)

  module _ (room : place + w * N ≤ length old) where
    -- more two-bit bytes
    pub both_bytes : (bytes new : List ℕ) (at e : ℕ) → at ≡ length bytes → at + length new ≤ place → e ≤ N
        → written_at at new (both bytes e) ≡ both (bytes ++ new) e
    both_bytes bytes new at e p h l =
        let k = length_front e l in
        let r : w * e ≤ w * N = mul-le-mul_left w l in
        let t : length (written_at 0 bytes old) ≡ length old = length_written 0 bytes old (omega arith) in
        let z : at ≡ 0 + length bytes = omega arith in
        written_apart at place new (front e) (written_at 0 bytes old) h (omega arith)
        ∙ ap (written_at place (front e))
        (ap (λ (i : ℕ). written_at i new (written_at 0 bytes old)) z ∙ written_twice 0 bytes new old (omega arith))

    -- more entries
    pub both_entries : (bytes : List ℕ) (at e n : ℕ) (rest : List Correction) → length bytes ≤ place → at ≡ place + w * e → e + n ≤ N → drop e cs ≡ rest
        → written_at at (entry_bytes w (take n rest)) (both bytes e) ≡ both bytes (e + n)
    both_entries bytes at e n rest h p l q =
        let k = length_front e (omega arith) in
        let r : w * (e + n) ≤ w * N = mul-le-mul_left w l in
        let s : w * (e + n) ≡ w * e + w * n = mul-add w e n in
        let t : length (written_at 0 bytes old) ≡ length old = length_written 0 bytes old (omega arith) in
        let x : length rest ≡ N - e = ap length (sym q) ∙ length-drop e cs in
        let u : length (entry_bytes w (take n rest)) ≡ w * n = length-entries w (take n rest) ∙ ap (λ (i : ℕ). w * i) (length-take-le n rest (omega arith)) in
        let z : at ≡ place + length (front e) = omega arith in
        ap (λ (i : ℕ). written_at i (entry_bytes w (take n rest)) (both bytes e)) z
        ∙ written_twice place (front e) (entry_bytes w (take n rest)) (written_at 0 bytes old) (omega arith)
        ∙ ap (λ (l : List ℕ). written_at place l (written_at 0 bytes old))
        (sym (entries-append w (take e cs) (take n rest))
        ∙ ap (entry_bytes w) (ap (λ (l : List Correction). take e cs ++ take n l) (sym q) ∙ sym (take-add e n cs)))

    -- all of them, and the word between both parts: one list
    pub both_whole : (bytes : List ℕ) → length bytes + word_size N ≡ place
        → written_at (length bytes) (word_bytes w N) (both bytes N) ≡ written_at 0 (bytes ++ table_bytes w cs) old
    both_whole bytes e =
        let word = word_bytes w N in
        let i = length_word w N in
        let k = length_front N (omega arith) in
        let z : place ≡ length bytes + length word = omega arith in
        let y : length bytes ≡ 0 + length bytes = omega arith in
        let t : take N cs ≡ cs = take-length cs in
        let x = written_at 0 bytes old in
        let s : length x ≡ length old = length_written 0 bytes old (omega arith) in
        written_apart (length bytes) place word (front N) x (omega arith) (omega arith)
        ∙ ap (λ (n : ℕ). written_at n (front N) (written_at (length bytes) word x)) z
        ∙ written_twice (length bytes) word (front N) x (omega arith)
        ∙ ap (λ (n : ℕ). written_at n (word ++ front N) x) y
        ∙ written_twice 0 bytes (word ++ front N) old (omega (arith, length-append word (front N)))
        ∙ ap (λ (l : List Correction). written_at 0 (bytes ++ (word ++ entry_bytes w l)) old) t
