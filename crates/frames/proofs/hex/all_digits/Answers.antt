-- `frames::hex::all_digits` meets its contract.
use Rattle.std.proofs.Common.{◌∙◌, rules}
use Rattle.std.proofs.lemmas.Iterator.{YieldsList-from_slice}
use Rattle.std.proofs.lemmas.Iterator.Search.{all_from_yields_List}
use Rattle.text.specs.Hex.{is_digit}
use Rattle.stacks.proofs.Lists.{all-listed}
use Rattle.frames.proofs.hex.all_digits.Goals as goal

pub returns : goal.returns
returns c =
    let text = c.args.text.now in
    all_from_yields_List is_digit _ _ _ c.all.ensures.ran (YieldsList-from_slice text (cc)) (λ x b q k. search rules)
    ∙ all-listed is_digit text
