-- All promises of what is reached.
-- Assumes nothing.
use Rattle.network.proofs.Alone.{alone, gives, sells}
use Rattle.network.proofs.Arrive.{arrives}
use Rattle.network.proofs.Asked.{answers_once, answers_true}
use Rattle.network.proofs.Granted.{grants, keeps}
use Rattle.network.proofs.Lost.{lost_listed}
use Rattle.network.proofs.Numbers.{asks_rise, rise}
use Rattle.network.proofs.Once.{once, only, twice}
use Rattle.network.proofs.Sales.{keeps_none}
use Rattle.network.proofs.Tallies.{tells_true}
use Rattle.network.proofs.Turns.{asks_first}
use Rattle.network.proofs.Undoing.{undoes}
use Rattle.network.specs.Falls.{Reach}
use Rattle.network.specs.Promised.{Everywhere}

pub everywhere : Everywhere
everywhere n tb s reached =
    let w = s.world in
    let r : Reach n tb w = (s.synced, reached) in
    record {
      one_place = once n tb w r;
      never_twice = twice n tb w r;
      numbers_rise = rise n tb w r;
      only_what_is = only n tb w r;
      sells_alone = alone n tb w r;
      sells = sells n tb w r;
      gives = gives n tb w r;
      undoes = undoes n tb w r;
      asks_first = asks_first n tb w r;
      grants = grants n tb w r;
      keeps = keeps n tb w r;
      keeps_none = keeps_none n tb w r;
      answers_once = answers_once n tb w r;
      answers_true = answers_true n tb w r;
      asks_rise = asks_rise n tb w r;
      tells_true = tells_true n tb w r;
      lost_listed = lost_listed n tb w r;
      arrives = arrives n tb s reached;
    }
