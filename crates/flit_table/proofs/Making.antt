-- A step on the table that makes an event: the rule is kept, and what the pass is told.
use Rattle.std.proofs.Common.{◌≡◌, ℕ, ◌<◌, ◌^◌, List, [], ◌∷◌, ◌++◌, get_or, set, refl, sym, ◌∙◌, ap, subst, Some}
use mathlib.Core.Option as maybe
use lib.ListN.{get_elem?}
use Rattle.std.specs.List.{AllByRecursion}
use Rattle.atomic_table.specs.Table as table
use Rattle.flit_model.specs.States.{State}
use Rattle.flit_model.specs.Effects.{after, answer, IsAllowed}
use Rattle.flit_model.specs.declared.events.Event.{Event}
use Rattle.flit_structure.specs.declared.workers.Doing.{Doing}
use Rattle.flit_structure.specs.declared.workers.Doing.TheVariants.{Idle, Busy, Evicting}
use Rattle.flit_structure.specs.declared.workers.Worker.{Worker}
use Rattle.flit_structure.specs.Moments.{Moment}
use Rattle.flit_structure.specs.Meanings.{Meaning, asks, asked_by, hand_of, effect_by}
use Rattle.flit_structure.specs.Lawful.{Lawful, IsSized, IsWithin, IsNamed}
use Rattle.flit_structure.proofs.Names.{all_at}
use Rattle.flit_table.specs.declared.views.Logged.{Logged}
use Rattle.flit_table.specs.declared.views.Origin.{Origin}
use Rattle.flit_table.specs.declared.views.Post.{Post}
use Rattle.flit_table.specs.declared.views.Start.{Start}
use Rattle.flit_table.specs.declared.views.View.{View}
use Rattle.flit_table.specs.Logs.{logged_by}
use Rattle.flit_table.specs.Views.{all_workers}
use Rattle.flit_table.specs.Moves.{MayEnter, HasNoneQueued, EntersUnqueued, entering, having_moved, having_rested}
use Rattle.flit_table.specs.Rule.{laid_out, moment_of, IsLicensedIn, IsLicensed, Agrees, Kept, IsRuled}
use Rattle.flit_table.specs.Places.{place_in}
use Rattle.flit_table.specs.Steps.{IsTold, IsRepliedIn, IsTrying, Stepped}
use Rattle.flit_table.proofs.ViewWorkers.{behind_first, posts_head, all_around}
use Rattle.flit_table.proofs.Unqueued.{enters_unqueued}
use Rattle.flit_table.proofs.Beginning.{begins_kept}
use Rattle.flit_table.proofs.Moving.{moves_kept}
use Rattle.flit_table.proofs.Ending as ending
use Rattle.flit_table.proofs.Saying as saying
use Rattle.flit_table.proofs.Rows.{cell, turns, told_of, told_is, row_found, row_set, allowed_within}
use Rattle.flit_table.proofs.Spots.{Spot, spot}

module _ {S Op : Type 0} (meaning : Meaning Op) (laws : Lawful meaning) (o : Origin S) where
  -- what the rule says of the worker of a view
  module _ (m : State) (log : List Logged) (a b : List (View S Op)) (v : View S Op) (some : 0 < v.names) (k : Kept meaning o m log (a ++ v ∷ b)) where
    abbrev u : Worker Op
    u = v.post.worker

    abbrev A : List (Worker Op)
    A = all_workers a

    abbrev B : List (Worker Op)
    B = behind_first v b

    abbrev M : Moment Op
    M = moment_of o m log []

    pub holds_around : meaning.holds (moment_of o m log (A ++ u ∷ B))
    holds_around = subst (λ us. meaning.holds (moment_of o m log us)) (all_around a b v some) k.holds

    pub is_sized : IsSized meaning.layout m
    is_sized = laws.sized (moment_of o m log (A ++ u ∷ B)) holds_around

    pub has_hand : ((hand_of meaning u).name ≡ u.name) × ((hand_of meaning u).number ≡ u.number)
    has_hand =
        let is = all_at (IsNamed meaning) A B u (laws.named (moment_of o m log (A ++ u ∷ B)) holds_around).each in
        (is.name, is.number)

    pub is_allowed : (e : Event) → asked_by meaning u ≡ Some e → IsAllowed m e
    is_allowed e asked = laws.allowed M A u B e asked holds_around

    pub is_within : (e : Event) → asked_by meaning u ≡ Some e → IsWithin meaning.layout e
    is_within e asked = allowed_within meaning.layout m e is_sized (is_allowed e asked)

    told_in : (e : Event) (name number : ℕ) (doing : Doing Op) → meaning.holds
        (moment_of o m log (A ++ record { name = name; number = number; doing = doing } ∷ B)) → asks meaning doing ≡ Some e → IsTold meaning doing (answer m e)
    told_in e name number (Idle hand) h asked = tt
    told_in e name number (Busy op call begun) h asked = record {
      moment = M;
      before = A;
      behind = B;
      name = name;
      number = number;
      call = call;
      begun = begun;
      event = e;
      holds = h;
      asks = asked;
      answers = refl;
    }
    told_in e name number (Evicting evict) h asked = tt

    pub is_told : (e : Event) → asked_by meaning u ≡ Some e → IsTold meaning u.doing (answer m e)
    is_told e asked = told_in e u.name u.number u.doing holds_around asked

    replied_in : (name number : ℕ) (doing : Doing Op) → meaning.holds (moment_of o m log (A ++ record { name = name; number = number; doing = doing } ∷ B)) →
        IsRepliedIn meaning o log name number doing
    replied_in name number (Idle hand) h = tt
    replied_in name number (Busy op call begun) h = λ reply is. (m, laws.replies M A name number op call begun reply B is h)
    replied_in name number (Evicting evict) h = tt

    pub is_replied : IsRepliedIn meaning o log u.name u.number u.doing
    is_replied = replied_in u.name u.number u.doing holds_around

    trying_in : (N : Moment Op) (p : Post Op) (doing : Doing Op) → IsLicensedIn meaning N p doing → IsTrying meaning p doing
    trying_in N p (Idle hand) l = tt
    trying_in N p (Busy op call begun) l = λ below. laws.licensed_means N op p.start p.tried l below
    trying_in N p (Evicting evict) l = tt

    pub is_trying : IsTrying meaning v.post u.doing
    is_trying =
        let N = moment_of o m log (all_workers (a ++ v ∷ b)) in
        let x : Agrees meaning o log N v = all_at (Agrees meaning o log N) a b v k.each in
        trying_in N v.post u.doing (subst (AllByRecursion (IsLicensed meaning N)) (posts_head v some) x.licensed).0

    pub is_unqueued : meaning.layout.workers ≡ 1 → HasNoneQueued meaning v.post
    is_unqueued one =
        let N = moment_of o m log (all_workers (a ++ v ∷ b)) in
        let x : Agrees meaning o log N v = all_at (Agrees meaning o log N) a b v k.each in
        (subst (AllByRecursion (HasNoneQueued meaning)) (posts_head v some) (x.queued one)).0

    pub goes_unqueued : meaning.layout.workers ≡ 1 → EntersUnqueued meaning v.post
    goes_unqueued one = enters_unqueued meaning laws M A B v.post holds_around (is_unqueued one)

  -- the table after the step, and what the pass is told
  pub record Makes (t : table.State ℕ (View S Op)) (id : ℕ) (v : View S Op) (start : Start) (e : Event) : Type 0 where
    pub view : View S Op
    pub ruled : IsRuled meaning o (record {
      words = set t.words (place_in meaning.layout e) (turns e (get_or t.words (place_in meaning.layout e) 0));
      homes =
          t.homes;
      views = set t.views id view;
    })
    pub tells : Stepped meaning o (entering meaning start v) e (told_of e (get_or t.words (place_in meaning.layout e) 0)) view

  pub makes : (t : table.State ℕ (View S Op)) (id : ℕ) (v : View S Op) (start : Start) (e : Event) → IsRuled meaning o t → get_elem? t.views id ≡ maybe.some v →
      0 < v.names → MayEnter meaning start v.post →
      asked_by meaning (entering meaning start v).post.worker ≡ Some e → get_or t.words (place_in meaning.layout e) 0 < 2 ^ 64 → Makes t id v start e
  makes t id v start e ruled at some may asked small =
      let l = meaning.layout in
      let m = ruled.state in
      let log = ruled.log in
      let sp : Spot t.views id v = spot t.views id v at in
      let a = sp.front in
      let b = sp.back in
      let k : Kept meaning o m log (a ++ v ∷ b) = subst (Kept meaning o m log) sp.is ruled.kept in
      let v1 = entering meaning start v in
      let k1 = begins_kept meaning laws o m log start a b v some may k in
      let sized = is_sized m log a b v1 some k1 in
      let allowed = is_allowed m log a b v1 some k1 e asked in
      let within = is_within m log a b v1 some k1 e asked in
      let place = place_in l e in
      let found : get_or t.words place 0 ≡ cell m e = ap (λ (xs : List ℕ). get_or xs place 0) ruled.laid ∙ row_found l m sized e within in
      let laid : set t.words place (turns e (get_or t.words place 0)) ≡ 0 ∷ laid_out (after m e) =
      (λ i. set (ruled.laid i) place (turns e (found i))) ∙ row_set l m sized e within allowed (subst (λ n. n < 2 ^ 64) found small) in
      let told : told_of e (get_or t.words place 0) ≡ answer m e = ap (told_of e) found ∙ told_is m e in
      let longer = log ++ logged_by e (answer m e) (effect_by meaning v1.post.worker) in
      let v2 = having_moved meaning log e (answer m e) v1 in
      let k2 = moves_kept meaning laws o m log e a b v1 some asked k1 in
      let r = ending.rests_kept meaning laws o (after m e) longer a b v2 some refl k2 in
      let w = having_rested meaning r.reads v2 in
      let begins = (saying.here meaning laws o m log a b v1 k1).begins in
      let tells : Stepped meaning o v1 e (answer m e) w = record {
        between = begins.0;
        reads = r.reads;
        moved = v2;
        moves = ap (λ z. having_moved meaning z e (answer m e) v1) begins.1;
        rests = refl;
        are = r.are;
        late = r.late;
        right = (saying.here meaning laws o (after m e) longer a b w r.kept).right;
        tells = is_told m log a b v1 some k1 e asked;
        within = λ d asks_now. is_within (after m e) longer a b v2 some k2 d asks_now;
        replied = is_replied (after m e) longer a b v2 some k2;
        trying = is_trying (after m e) longer a b v2 some k2;
        queued = λ one. (is_unqueued (after m e) longer a b v2 some k2 one, goes_unqueued (after m e) longer a b w some r.kept one);
        legal = saying.seen_legal meaning laws o (after m e) longer a b w r.kept;
        order = saying.in_order meaning laws o (after m e) longer a b w r.kept;
        hand = has_hand (after m e) longer a b w some r.kept;
      } in
      record {
        view = w;
        ruled = record { state = after m e; log = longer; laid = laid; kept = subst (Kept meaning o (after m e) longer) (sym (sp.put w)) r.kept };
        tells = subst (λ n. Stepped meaning o v1 e n w) (sym told) tells;
      }
