-- The worked cases, computed.
use Rattle.std.proofs.Common.{refl}
use Rattle.text.specs.Names.{keyword, identifier, dotted}
use Rattle.text.specs.Numbers.{int, float}
use Rattle.text.specs.Utf8.{utf8}
use Rattle.model.specs.Read.{expr, one_class, one_module}
use Rattle.rules.specs.Cases.{CasesHold, table}

pub computed : CasesHold table
unfolding keyword identifier dotted int float utf8 expr one_class one_module
computed =
    ((refl, refl), ((refl, refl), ((refl, refl), ((refl, refl), ((refl, refl), ((refl, refl), ((refl, refl), ((refl, refl), ((refl, refl), ((refl, refl), ((refl, refl), ((refl, refl), ((refl, refl), ((refl, refl), ((refl, refl), ((refl, refl), ((refl, refl), ((refl, refl), ((refl, refl), ((refl, refl), ((refl, refl), ((refl, refl), ((refl, refl), ((refl, refl), tt))))))))))))))))))))))))
