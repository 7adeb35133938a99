use Rattle.std.proofs.Common.{◌≡◌, ◌-◌, length, take, drop, arith, rules, tests}
use Rattle.std.proofs.lemmas.Iterator.{YieldsList-from_slice}
use Rattle.std.proofs.lemmas.Iterator.Search.{all_from_yields_List}
use Rattle.std.specs.List.{list_all}
use Rattle.text.specs.Names.{later_byte}
use Rattle.text.proofs.Steps.{spelled-cons}
use Rattle.text.proofs.names.is_spelled.Goals as goal

pub returns-then-is_name_byte : goal.returns-then-is_name_byte
returns-then-is_name_byte c =
    let later : c.all.result ≡ list_all later_byte (take (length c.args.s.now - 1) (drop 1 c.args.s.now)) =
    all_from_yields_List later_byte _ _ _ c.all.ensures.ran (YieldsList-from_slice (take (length c.args.s.now - 1) (drop 1 c.args.s.now)) cc) (λ x b q k. search (rules, tests)) in
    let s = spelled-cons c.args.s.now c.in-len1-up.len_at_least in
    grind arith
