use Rattle.std.proofs.Common.{◌≡◌, ◌++◌, flat_map, take}
use Rattle.list.specs.Shown.{shown_byte}
use Rattle.list.proofs.message.show.Given as goal

abbrev pub invariant-loop-b : goal.invariant-loop-b
invariant-loop-b l = l.shown.bytes.items ≡ l.initial.shown.bytes.items ++ flat_map shown_byte (take l.b-index l.name)
