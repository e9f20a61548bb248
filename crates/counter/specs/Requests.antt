-- What a request at the counter, or a tick, is to the station.
use Rattle.asking.specs.declared.event.Event.{Event}
use Rattle.asking.specs.declared.event.Event.TheVariants.{Call, Tick}
use Rattle.ledger.specs.declared.input.Input.TheVariants.{Close, Sell, Undo, Give, Ask}
use Rattle.counter.specs.declared.request.Request.{Request}
use Rattle.counter.specs.declared.request.Request.TheVariants as request

abbrev pub requested : Request → Event
requested (request.Close t) = Call (Close t)
requested (request.Sell d) = Call (Sell d)
requested (request.Undo n) = Call (Undo n)
requested (request.Give to d) = Call (Give to d)
requested (request.Ask d) = Call (Ask d)
requested request.Tick = Tick
