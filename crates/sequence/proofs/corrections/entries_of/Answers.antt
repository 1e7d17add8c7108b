-- `sequence::corrections::entries_of`: by the first word. Assumes nothing.
use mathlib.Core.Logic.{inl, inr}
use Rattle.sequence.proofs.Ranges.{HasWidth, entries-empty, entries-some, entries-wrong}
use Rattle.sequence.proofs.corrections.entries_of.Goals as goal
use Rattle.sequence.proofs.corrections.entries_of.Goals.{then-word-lt2147483648, else-word-lt2147483648}
use Rattle.sequence.proofs.corrections.entries_of.Goals.{else-start-words-via-else-start-words, else-start-words-via-then-start-words+else-w-count}

pub returns-then-place-end : goal.returns-then-place-end
returns-then-place-end c = entries-empty c.args.sequence.now c.args.place c.args.end c.if-place-end.true

pub returns-then-w-count : goal.returns-then-w-count
returns-then-w-count c =
    let a = c.args in
    let told : HasWidth c.read-word.result c.if-word-lt2147483648.width =
    elim c.if-word-lt2147483648.branch [
      | then-word-lt2147483648 w ↦ inl (w.if-word-lt2147483648.true, w.width-is)
      | else-word-lt2147483648 w ↦ inr (w.if-word-lt2147483648.false, w.width-is)
    ] in
    rw c.bytes-w.ensures
    (entries-some a.sequence.now a.place a.end _ _ c.read-word.ensures told c.if-start-words.true (rw c.bytes-w.ensures at c.if-w-count.true))

pub returns-else-start-words : goal.returns-else-start-words
returns-else-start-words c =
    let a = c.args in
    let told : HasWidth c.read-word.result c.if-word-lt2147483648.width =
    elim c.if-word-lt2147483648.branch [
      | then-word-lt2147483648 w ↦ inl (w.if-word-lt2147483648.true, w.width-is)
      | else-word-lt2147483648 w ↦ inr (w.if-word-lt2147483648.false, w.width-is)
    ] in
    entries-wrong a.sequence.now a.place a.end _ _ c.read-word.ensures told c.if-place-end.false
    (λ e f. elim c.else-start-words.branch [
      | else-start-words-via-else-start-words w ↦ w.if-start-words.false e
      | else-start-words-via-then-start-words+else-w-count w ↦ w.if-w-count.false (rw c.bytes-w.ensures f)
    ])
