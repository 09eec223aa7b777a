-- Why a right trace can't be refused.
use Rattle.std.proofs.Common.{◌≡◌, ℕ, List, refl, subst, inl, inr, arith}
use Rattle.flit_words.specs.Layouts.{Accepted}
use Rattle.flit_words.specs.declared.layouts.Layout.{Layout}
use Rattle.flit_model.specs.Images.{Shape, Chains, Grown, IsLawfulAs}
use Rattle.flit_recover.specs.AboutDamages.{ListLawfulUndamaged, TreeLawfulUndamaged}
use Rattle.flit_recover.specs.Damages.{IsFirstDamage}
use Rattle.flit_recover.specs.declared.found.Damage.{Damage as A_damage}
use Rattle.flit_trace.specs.AboutTraces.{TraceWithoutFault, LayoutAccepted}
use Rattle.flit_trace.specs.Contents.{Content}
use Rattle.flit_trace.specs.Grammar.{IsTrace}
use Rattle.flit_step_reports.specs.StepReports.{start_words}
use Rattle.flit_statuses.specs.declared.status.ImageFault.TheVariants.{Text, Damage}
use Rattle.flit_statuses.specs.declared.status.Status.TheVariants.{Done, Usage, BadTrace, Limit, BadImage, ReadFault, WriteFault, NoMemory}
use Rattle.flit_trace.specs.declared.heads.Place.TheVariants.{Lines}
use Rattle.flit_structures.specs.RightTraces.{IsRightTrace, RightTracesAreAnswered}
use Rattle.flit_structures.specs.Starts.{words_layout}
use Rattle.flit_structures.specs.Texts.{IsUnplayable, HasStartDamage}

-- the layout of the words of an accepted layout is accepted
accepted_words : (l : Layout) → Accepted l → Accepted (words_layout l)
accepted_words l h = record {
  least_bucket = h.least_bucket;
  most_bucket = h.most_bucket;
  least_row = h.least_row;
  most_row = h.most_row;
  most_slot = omega arith;
  least_worker = omega arith;
  most_worker = omega arith;
  least_limit = omega arith;
  most_limit = omega arith;
}

-- lawful words have no first damage
undamaged : (l : Layout) (image : List ℕ) (d : A_damage) (s : Shape) → ListLawfulUndamaged → TreeLawfulUndamaged → Accepted l → IsLawfulAs l image s →
    IsFirstDamage l image d → ⊥
undamaged l image d (Chains chain) lists trees can lawful damage = lists l image chain d lawful.0 lawful.1 damage
undamaged l image d (Grown t) lists trees can lawful damage = trees l image t d can lawful.0 lawful.1 damage

module _ (one : (bytes : List ℕ) (a b : Content) → IsTrace bytes a → IsTrace bytes b → a ≡ b) (apart : TraceWithoutFault) (accepted : LayoutAccepted)
    (lists : ListLawfulUndamaged) (trees : TreeLawfulUndamaged) where
  no_lines : (bytes : List ℕ) → IsRightTrace bytes → IsUnplayable bytes → ⊥
  no_lines bytes right none =
      right.playable (subst (λ (c : Content). c.head.place ≡ Lines) (one bytes none.content right.content none.trace right.trace) none.lines)

  no_damage : (bytes : List ℕ) (d : A_damage) → IsRightTrace bytes → HasStartDamage bytes d → ⊥
  no_damage bytes d right damaged =
      let damage = subst (λ (c : Content). IsFirstDamage (words_layout c.head.layout) (start_words c) d)
      (one bytes damaged.content right.content damaged.trace right.trace) damaged.first in
      undamaged (words_layout right.content.head.layout) (start_words right.content) d right.lawful.0 lists trees
      (accepted_words right.content.head.layout (accepted bytes right.content right.trace)) right.lawful.1 damage

  pub answered : RightTracesAreAnswered
  answered bytes (BadTrace line) right none =
      absurd (elim none [
        | inl bad ↦ apart bytes right.content _ right.trace bad
        | inr rest ↦ elim rest [
          | inl ends ↦ apart bytes right.content _ right.trace ends
          | inr lines ↦ no_lines bytes right lines.1
        ]
      ])
  answered bytes (Limit line limit) right none = absurd (apart bytes right.content _ right.trace none)
  answered bytes (BadImage (Damage d)) right none = absurd (no_damage bytes d right none)
  answered bytes (BadImage (Text error)) right none = absurd none
  answered bytes NoMemory right none = refl
  answered bytes Done right none = absurd none
  answered bytes Usage right none = absurd none
  answered bytes ReadFault right none = absurd none
  answered bytes WriteFault right none = absurd none
