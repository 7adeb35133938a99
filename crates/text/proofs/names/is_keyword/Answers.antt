use Rattle.std.proofs.Common.{rules, tests}
use Rattle.std.specs.Str.{bytes_eq}
use Rattle.std.proofs.lemmas.Iterator.{YieldsList-from_slice}
use Rattle.std.proofs.lemmas.Iterator.Search.{any_from_yields_List}
use Rattle.text.specs.Names.{keyword}
use Rattle.text.proofs.names.is_keyword.Goals as goal

pub returns : goal.returns
unfolding keyword
returns c =
    any_from_yields_List (λ word. bytes_eq word.now c.args.s.now) _ _ _ c.any.ensures.ran (YieldsList-from_slice _ c.iter.ensures.rest) (λ x b q k. search (rules, tests))
