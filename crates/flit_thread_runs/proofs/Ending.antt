-- What the calls at the end of a run have said, put together.
use Rattle.std.proofs.Common.{◌≡◌, ◌<◌, List, [], ◌∷◌, ◌++◌, length, map, refl, sym, ap, subst, arith}
use Rattle.flit_model.specs.declared.calls.Ahead.{Ahead}
use Rattle.flit_model.specs.declared.calls.Outcome.{Outcome}
use Rattle.flit_model.specs.declared.calls.Work.{Work}
use Rattle.flit_model.specs.declared.found.Image.{Image}
use Rattle.flit_model.specs.Maps.{Map, map_after_all}
use Rattle.flit_model.specs.Recovery.{IsImageOf}
use Rattle.flit_model.specs.declared.found.Recovered.{Recovered}
use Rattle.flit_lawful_images.specs.Maps.{IsMapOf, HasPairsOf}
use Rattle.flit_structure.specs.Meanings.{Meaning}
use Rattle.flit_table.specs.declared.passes.Pass.{Pass}
use Rattle.flit_table.specs.declared.told.Known.{Known}
use Rattle.flit_table.specs.declared.views.Origin.{Origin}
use Rattle.flit_table.specs.declared.views.View.{View}
use Rattle.flit_table.specs.Closing.{Closes, picks_of, known_in}
use Rattle.flit_table.specs.Passes.{view_of}
use Rattle.flit_table.specs.Rule.{first_view}
use Rattle.flit_table.specs.Steps.{Home, meaning_of}
use Rattle.flit_table.specs.Views.{content_of}
use Rattle.flit_workers.specs.declared.ends.End.{End}
use Rattle.flit_workers.specs.Ends.{HaveEnded, HasEnded}
use Rattle.flit_workers.specs.Gathered.{HasGathered}
use Rattle.flit_workers.proofs.Sharing.{same_length}
use Rattle.flit_thread_histories.specs.Promises.{history_told, KeepsPromises, HaveRun, ThreadsKeepPromises}

pub mapped_twice : {X Y Z : Type 0} (f : X → Y) (g : Y → Z) (xs : List X) → map g (map f xs) ≡ map (λ x. g (f x)) xs
mapped_twice f g [] = refl
mapped_twice f g (x ∷ xs) = ap (λ l. g (f x) ∷ l) (mapped_twice f g xs)

module _ {S Op : Type 0} (meanings : S → Meaning Op) (home : Home S) where
  pub some_end : (v : View S Op) (works : List Work) (ends : List (End S Op)) → HaveEnded meanings home v works ends → 0 < length works → 0 < length ends
  some_end v works ends h some = (let e = same_length (λ n w x. HasEnded meanings home n v w x) 0 works ends h in omega (arith, e, some))

  pub kept_at_end : ThreadsKeepPromises meanings → (works : List Work) (ends : List (End S Op)) (v : View S Op) (pass : Pass S Op) (ahead : Ahead) (image : Image)
      (told : Known) (outcomes : List (List Outcome)) → v ≡ first_view (meaning_of meanings home) home.origin →
      length works ≡ (meaning_of meanings home).layout.workers →
      HaveEnded meanings home v works ends → HasGathered (meaning_of meanings home) (map (λ e. e.pass) ends) pass →
      Closes (meaning_of meanings home) home.origin (view_of pass) (picks_of ahead) image.words.items → IsImageOf (meaning_of meanings home).layout image →
      told ≡ known_in (meaning_of meanings home).layout ahead image (view_of pass) → outcomes ≡ map (λ e. e.outcomes.items) ends →
      KeepsPromises (meaning_of meanings home) home.origin works outcomes told
  kept_at_end law works ends v pass ahead image told outcomes first each ended gathered closed shape is are =
      let run : HaveRun meanings home works ends pass ahead image = record {
        each = each;
        ended = subst (λ (w : View S Op). HaveEnded meanings home w works ends) first ended;
        gathered = gathered;
        closed = closed;
        shape = shape;
      } in
      subst (KeepsPromises (meaning_of meanings home) home.origin works outcomes) (sym is)
      (subst (λ l. KeepsPromises (meaning_of meanings home) home.origin works l (known_in (meaning_of meanings home).layout ahead image (view_of pass))) (sym are)
      (law home works ends pass ahead image run))

-- the image that is told has the map after the history; and what recovery finds in it are the pairs of this map
module _ {S Op : Type 0} (meaning : Meaning Op) (o : Origin S) (works : List Work) (outcomes : List (List Outcome)) (t : Known) (image : Image)
    (same : t.image ≡ image) (h : KeepsPromises meaning o works outcomes t) where
  abbrev its_map : Map
  its_map = map_after_all (content_of o) (history_told t ++ h.taken)

  pub its_pairs : IsMapOf image its_map
  its_pairs = subst (λ (i : Image). IsMapOf i its_map) same h.found

  pub map_told : (m : Map) × IsMapOf image m
  map_told = (its_map, its_pairs)

pub pairs_told : {S Op : Type 0} (meaning : Meaning Op) (o : Origin S) (works : List Work) (outcomes : List (List Outcome)) (t : Known) (image : Image)
    (found : Recovered) (same : t.image ≡ image) (h : KeepsPromises meaning o works outcomes t) → ((m : Map) → IsMapOf image m → HasPairsOf m found) →
    HasPairsOf (map_after_all (content_of o) (history_told t ++ h.taken)) found
pairs_told meaning o works outcomes t image found same h each =
    each (map_after_all (content_of o) (history_told t ++ h.taken)) (its_pairs meaning o works outcomes t image same h)
