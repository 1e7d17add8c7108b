-- Laws of results. Assumes nothing.
use mathlib.Core.Path.{◌≡◌, refl, sym, ap, ◌∙◌}
use mathlib.Core.List.{List, [], ◌∷◌, ◌++◌, append_assoc, append-nil}
use Prim.Native.Nat.{ℕ, ◌+◌, ◌*◌, ◌≤◌, ◌<◌}
use native.Mathlib.Numerals.{add-one}
use native.Mathlib.Omega.{arith}
use lib.ListN.{length, get_or, take, length-append}
use lib.Seq.{take-suc, take-length, length-take-le}
use borrow.Author.Tests.{le-leb, lt-leb}
use Rattle.laws.specs.Writing.{written_at}
use Rattle.laws.proofs.Writing.{written_twice}
use Rattle.fields.specs.Number.{little}
use Rattle.fields.specs.Written.{little_bytes, number_put}
use Rattle.fields.proofs.Laws.{length-little, put_fits}
use Rattle.console.specs.Results.{result_bytes, results_put}

pub length_results : (values : List ℕ) → length (result_bytes values) ≡ 8 * length values
length_results [] = refl
length_results (v ∷ values) = omega (arith, length-append (little_bytes 8 v) (result_bytes values), length-little 8 v, length_results values)

pub results_append : (xs ys : List ℕ) → result_bytes (xs ++ ys) ≡ result_bytes xs ++ result_bytes ys
results_append [] ys = refl
results_append (x ∷ xs) ys = ap (λ (l : List ℕ). little_bytes 8 x ++ l) (results_append xs ys) ∙ sym
    (append_assoc (little_bytes 8 x) (result_bytes xs) (result_bytes ys))

-- one value more, after those before it
pub results_next : (values results out : List ℕ) (k v : ℕ) → k < length values → 8 * length values ≤ length results → v ≡ get_or values k 0
    → out ≡ written_at 0 (result_bytes (take k values)) results → length out ≡ length results
    → number_put little 8 (8 * k) v out ≡ written_at 0 (result_bytes (take (k + 1) values)) results
results_next values results out k v h room e so_far same =
    let xs = result_bytes (take k values) in
    let at : length xs ≡ 8 * k = length_results (take k values) ∙ ap (λ (n : ℕ). 8 * n) (length-take-le k values (omega arith)) in
    let zero-at : 0 + length xs ≡ 8 * k = omega arith in
    let fits : 8 * k + 8 ≤ length out = omega arith in
    let join : xs ++ little_bytes 8 v ≡ result_bytes (take (k + 1) values) =
    sym (rw (add-one, take-suc values k 0 h)
    (results_append (take k values) (get_or values k 0 ∷ []) ∙ rw (← e) (ap (λ (l : List ℕ). xs ++ l) (append-nil (little_bytes 8 v))))) in
    put_fits little 8 (8 * k) v out fits
    ∙ (ap (λ (l : List ℕ). written_at (8 * k) (little_bytes 8 v) l) so_far
    ∙ (ap (λ (n : ℕ). written_at n (little_bytes 8 v) (written_at 0 xs results)) (sym zero-at)
    ∙ (written_twice 0 xs (little_bytes 8 v) results (omega (arith, length-little 8 v))
    ∙ ap (λ (l : List ℕ). written_at 0 l results) join)))

pub results_all : (values : List ℕ) (k : ℕ) → k ≡ length values → result_bytes (take k values) ≡ result_bytes values
results_all values k e = rw (e, take-length)

pub put_room : (values results : List ℕ) → 8 * length values ≤ length results → results_put values results ≡ written_at 0 (result_bytes values) results
unfolding results_put
put_room values results h = rw (le-leb (8 * length values) (length results) h)

pub put_none : (values results : List ℕ) → length results < 8 * length values → results_put values results ≡ results
unfolding results_put
put_none values results h = rw (lt-leb (8 * length values) (length results) h)

-- no values write nothing
pub put_nothing : (results : List ℕ) → results_put [] results ≡ results
put_nothing results = put_room [] results (omega arith)
