use Rattle.std.proofs.Common.{◌++◌, ◌∷◌, [], ap, ◌∙◌}
use Rattle.unfinished_search.proofs.shared.failure_alone.Goals as goal

pub returns : goal.returns
returns c = record {
  alone = record {
    error = c.in_ok-error.error;
    alone = c.in_ok-push.ensures.items ∙ ap (λ z. z ++ c.in_ok-error.error ∷ []) c.new-alone.ensures.items;
    is = c.in_ok-error.ensures.error;
    instance = c.in_ok-error.ensures.instance;
  };
}
