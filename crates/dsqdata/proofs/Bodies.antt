-- The packets of a sequence file. Assumes nothing.
use mathlib.Core.Path.{◌≡◌}
use mathlib.Core.List.{List}
use Prim.Native.Nat.{ℕ, ◌<◌}
use lib.ListN.{length, get_or}
use Rattle.laws.proofs.Places.{length-list_to, list_to_at}
use Rattle.fields.specs.declared.Order.{Order}
use Rattle.dsqdata.specs.Header.{packets_in, packet_at, body_of}

module _ (order : Order) (s : List ℕ) where
  pub body-length : length (body_of order s) ≡ packets_in s
  unfolding body_of
  body-length = length-list_to (packet_at order s) (packets_in s)

  pub body_at : (k : ℕ) → k < packets_in s → get_or (body_of order s) k 0 ≡ packet_at order s k
  unfolding body_of
  body_at k h = list_to_at (packet_at order s) (packets_in s) k 0 h
