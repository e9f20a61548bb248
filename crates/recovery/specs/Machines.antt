-- A station at work, as plain lists.
use Rattle.asking.specs.Minds.{Mind, mind}
use Rattle.recovery.specs.declared.machine.Machine.{Machine}
use Rattle.state.specs.States.{State}
use Rattle.state.specs.Views.{view}

abbrev pub shown : Machine → State
shown m = view m.station

abbrev pub mind_in : Machine → Mind
mind_in m = mind m.desk
