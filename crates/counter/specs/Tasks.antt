-- What a line asks of a station.
use Rattle.std.specs.Prelude.{ℕ, min}
use Rattle.counter.specs.declared.request.Request.TheVariants as request
use Rattle.counter.specs.declared.task.Task.{Task}
use Rattle.counter.specs.declared.task.Task.TheVariants as task
use Rattle.giving.specs.Others.{other_of}
use Rattle.giving.specs.declared.ids.StationId.{StationId}
use Rattle.pieces.specs.declared.demand.Demand.{Demand}
use Rattle.script.specs.declared.command.Deed.{Deed}
use Rattle.script.specs.declared.command.Deed.TheVariants.{Open, Close, Sell, Undo, Give, Ask, Lost, Tick}
use Rattle.script.specs.declared.command.Wish.{Wish}

-- a number as a byte: one that is none is 255, which is no stop, and too many people
abbrev pub byte_of : ℕ → ℕ
byte_of n = min n 255

abbrev pub demand_of : Wish → Demand
demand_of w = record { train = record { 0 = w.train }; from = record { 0 = byte_of w.from }; to = record { 0 = byte_of w.to }; people = byte_of w.people }

abbrev pub task_of : (me : StationId) → Deed → Task
task_of me (Open o) = task.Open o
task_of me (Lost j) = task.Lost (other_of me j)
task_of me (Close t) = task.Request (request.Close (record { 0 = t }))
task_of me (Sell w) = task.Request (request.Sell (demand_of w))
task_of me (Undo n) = task.Request (request.Undo (record { 0 = n }))
task_of me (Give j w) = task.Request (request.Give (other_of me j) (demand_of w))
task_of me (Ask w) = task.Request (request.Ask (demand_of w))
task_of me Tick = task.Request request.Tick
