use Rattle.std.proofs.Common.{refl}
use Rattle.std.specs.Fmt.{digits}
use Rattle.naming.specs.Next.{front, number, next_name}
use Rattle.naming.proofs.laws.cases_hold.Goals as goal

pub returns : goal.returns
unfolding front number next_name digits
returns c = (refl, (refl, (refl, (refl, (refl, (refl, (refl, (refl, (refl, (refl, (refl, tt)))))))))))
