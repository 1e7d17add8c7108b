-- `dsqdata::header::check_files`: each part answers for its rules, and the first that refuses decides. Assumes nothing.
use Rattle.dsqdata.specs.Check.{file_rules}
use Rattle.dsqdata.proofs.Chain.{handed_on, err_then, ok_then}
use Rattle.dsqdata.proofs.header.check_files.Goals as goal

pub returns-in_err-check_start-3 : goal.returns-in_err-check_start-3
unfolding file_rules
returns-in_err-check_start-3 c =
    rw (
      handed_on _ c.from_residual-in_err-check_start-3.ensures.1,
      ok_then _ _ _ _ _ _ c.in_ok-check_sizes.ensures,
      ok_then _ _ _ _ _ _ c.in_ok-check_start.ensures,
      ok_then _ _ _ _ _ _ c.in_ok-check_start-2.ensures,
      err_then _ _ _ _ _ _ c.in_err-check_start-3.ensures,
    )
