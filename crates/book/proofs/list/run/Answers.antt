-- Each turn takes the list's first second.
use Rattle.std.proofs.Common.{◌∙◌}
use Rattle.book.proofs.Listed.{first_second, later_shorter, ran_second, ran}
use Rattle.book.proofs.list.run.Goals as goal

pub loop-rest-smaller : goal.loop-rest-smaller
loop-rest-smaller c = later_shorter _ _ c.in-len1-up.len_at_least c.split_second.ensures.1

pub loop-rest-preserved : goal.loop-rest-preserved
loop-rest-preserved c =
    record {
      ready = c.second.ensures.ready;
      same =
          c.loop-rest.invariant.same
          ∙ ran_second _ _ _ _ _ (first_second _ _ _ c.in-len1-up.len_at_least c.split_second.ensures.0 c.split_second.ensures.1) c.second.ensures.is;
    }

pub returns : goal.returns
returns c = ran _ c.requires _ _ _ c.in_default.len_below c.loop-rest.invariant.same
