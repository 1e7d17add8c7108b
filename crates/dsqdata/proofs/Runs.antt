-- A turn over the runs: what it reads of number k, by the places of the run. Assumes nothing.
use mathlib.Core.Path.{◌≡◌}
use mathlib.Core.List.{List}
use Prim.Native.Nat.{ℕ, ◌+◌}
use native.Mathlib.Numerals.{add-one}
use lib.Seq.{slice}
use Rattle.std.specs.Prelude.{Option, Some, None, Err}
use Rattle.laws.specs.Rules.{AllHold}
use Rattle.answers.specs.declared.Refusal.TheVariants.{BadRun}
use Rattle.answers.specs.Limits.{checked_by}
use Rattle.fields.specs.declared.Order.{Order}
use Rattle.packets.specs.Reading.{run_length}
use Rattle.packets.proofs.Reading.{read-formed, read-not}
use Rattle.dsqdata.specs.Header.{body_of}
use Rattle.dsqdata.specs.Ends.{packet_table, run_at, residues_at}
use Rattle.dsqdata.specs.Check.{rules_of_run}
use Rattle.dsqdata.specs.Lookup.{start_at}
use Rattle.dsqdata.proofs.Rising.{run-read}

module _ (order : Order) (i s : List ℕ) (a k : ℕ) {from to : ℕ} {x : Option ℕ} (e : from ≡ start_at order i packet_table k)
    (f : to ≡ start_at order i packet_table (k + 1)) (r : x ≡ run_length a (slice from to (body_of order s))) where
  run-here : x ≡ run_length a (run_at order i s k)
  run-here = run-read order i s k a from to x e (rw add-one at f) r

  pub run-bad : x ≡ None → Err BadRun ≡ checked_by (rules_of_run a (run_at order i s k))
  unfolding rules_of_run
  run-bad g = rw (read-not a (run_at order i s k) x run-here g)

  pub run-good : {n : ℕ} → x ≡ Some n → AllHold (rules_of_run a (run_at order i s k)) × (n ≡ residues_at order i s k)
  unfolding rules_of_run
  run-good g = let p = read-formed a (run_at order i s k) x run-here _ g in ((p.0, tt), p.1)
