-- `pages::fetch_page`: the sizes and the list of ends are asked before any work; then the items decide. Assumes nothing.
use mathlib.Core.Path.{◌≡◌, ◌∙◌}
use Rattle.answers.specs.declared.Refusal.TheVariants.{TooLarge}
use Rattle.pages.specs.Page.{begun, stopped, page_of}
use Rattle.pages.proofs.Steps.{same_parts, index_large, sequence_large, ends-short, page_items}
use Rattle.pages.proofs.fetch_page.Goals as goal
use Rattle.pages.proofs.fetch_page.Goals.{then-index-gt-MOST_BYTES-via-then-index-gt-MOST_BYTES}
use Rattle.pages.proofs.fetch_page.Goals.{then-index-gt-MOST_BYTES-via-else-index-gt-MOST_BYTES+then-sequence-gt-MOST_BYTES}

pub returns-then-index-gt-MOST_BYTES : goal.returns-then-index-gt-MOST_BYTES
returns-then-index-gt-MOST_BYTES c =
    let a = c.args in
    let large : stopped TooLarge (begun a.out.now a.ends.now) ≡ page_of a.index.now a.sequence.now a.numbers.now a.out.now a.ends.now =
    elim c.then-index-gt-MOST_BYTES.branch [
      | then-index-gt-MOST_BYTES-via-then-index-gt-MOST_BYTES w ↦ index_large _ _ _ _ _ w.if-index-gt-MOST_BYTES.true
      | then-index-gt-MOST_BYTES-via-else-index-gt-MOST_BYTES+then-sequence-gt-MOST_BYTES w ↦
          sequence_large _ _ _ _ _ w.if-index-gt-MOST_BYTES.false w.if-sequence-gt-MOST_BYTES.true
    ] in
    let told = same_parts _ _ large in
    record { answer = told.0; output = told.1.0; ends = told.1.1 }

pub returns-then-ends-numbers : goal.returns-then-ends-numbers
returns-then-ends-numbers c =
    let a = c.args in
    let short =
    ends-short a.index.now a.sequence.now a.numbers.now a.out.now a.ends.now c.if-index-gt-MOST_BYTES.false c.if-sequence-gt-MOST_BYTES.false
    c.if-ends-numbers.true in
    let told = same_parts _ _ short in
    record { answer = told.0; output = told.1.0; ends = told.1.1 }

pub returns : goal.returns
returns c =
    let a = c.args in
    let items =
    page_items a.index.now a.sequence.now a.numbers.now a.out.now a.ends.now c.if-index-gt-MOST_BYTES.false c.if-sequence-gt-MOST_BYTES.false
    c.if-ends-numbers.false in
    let whole = same_parts _ _ items in
    let told = c.fetch_all.ensures in
    record { answer = told.value ∙ whole.0; output = told.out_after ∙ whole.1.0; ends = told.ends_after ∙ whole.1.1 }
