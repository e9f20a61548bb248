use Rattle.std.proofs.Common.{◌≡◌, ℕ, take, length, vec_items, ap₂, fold, ◌∙◌, refl, rules}
use Rattle.files.specs.Reading.{records_of}
use Rattle.state.specs.Changes.{apply}
use Rattle.state.specs.States.{begun}
use Rattle.std.proofs.lemmas.List.{take_min}
use Rattle.rehearsal.proofs.Restarting.{first_part, cut_back, come_up}
use Rattle.timetable.specs.Tables.{table}
use Rattle.rehearsal.proofs.post.Post.restart.Goals as goal

pub returns : goal.returns
returns c =
    let f = vec_items c.args.self.now.file in
    let is : take c.min.result c.deref.result.now ≡ take c.args.bytes f = search (rules, take_min) in
    let part = c.whole-there.result.now in
    let cut : vec_items c.truncate.new.self ≡ take (length part) f = search rules in
    let tb = table c.args.trains.now in
    record {
      file = cut ∙ cut_back f _ part c.args.bytes is c.whole-there.ensures;
      sound = (first_part f _ part c.args.bytes is c.whole-there.ensures).sound;
      state = come_up f _ part c.args.bytes is c.whole-there.ensures tb _ _ c.in-Ok.ensures.ok.0
          ∙ ap₂ (λ (n i : ℕ). fold (apply tb) (begun n i) (records_of (take c.args.bytes f))) c.stations.ensures.value c.me.ensures;
      mind = c.in-Ok.ensures.ok.1;
      cut = refl;
    }
