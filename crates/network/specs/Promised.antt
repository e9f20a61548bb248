-- All that is promised of what stations can come to, whatever falls.
use Rattle.std.specs.Prelude.{ℕ}
use Rattle.network.specs.Falls.{Site, Reached}
use Rattle.network.specs.Lost.{LostListedIn}
use Rattle.network.specs.Promises.{OnePlaceIn, NeverTwiceIn, NumbersRiseIn, OnlyWhatIsIn, SellsAloneIn, SellsIn, GivesIn, UndoesIn, AsksFirstIn, GrantsIn, KeepsIn, KeepsNoneIn, AnswersOnceIn, AnswersTrueIn, AsksRiseIn, TellsTrueIn, ArrivesFrom}
use Rattle.timetable.specs.Rows.{Table}

-- all that is promised of a site that is reached
pub record Promised (n : ℕ) (tb : Table) (s : Site) : Type 0 where
  pub one_place : OnePlaceIn n tb s.world
  pub never_twice : NeverTwiceIn n tb s.world
  pub numbers_rise : NumbersRiseIn n tb s.world
  pub only_what_is : OnlyWhatIsIn n tb s.world
  pub sells_alone : SellsAloneIn n tb s.world
  pub sells : SellsIn n tb s.world
  pub gives : GivesIn n tb s.world
  pub undoes : UndoesIn n tb s.world
  pub asks_first : AsksFirstIn n tb s.world
  pub grants : GrantsIn n tb s.world
  pub keeps : KeepsIn n tb s.world
  pub keeps_none : KeepsNoneIn n tb s.world
  pub answers_once : AnswersOnceIn n tb s.world
  pub answers_true : AnswersTrueIn n tb s.world
  pub asks_rise : AsksRiseIn n tb s.world
  pub tells_true : TellsTrueIn n tb s.world
  pub lost_listed : LostListedIn n tb s.world
  pub arrives : ArrivesFrom n tb s

abbrev pub Everywhere : Type 0
Everywhere = (n : ℕ) (tb : Table) (s : Site) → Reached n tb s → Promised n tb s
