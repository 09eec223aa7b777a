-- What recovery finds in a start image is so of the trace that has it, and what it finds in fresh words of each trace that has none.
use Rattle.std.proofs.Common.{◌≡◌, ◌≢◌, ℕ, true, List, Some, None, sym, ◌∙◌, ap, subst, Result, Ok, Err, IfOk, IfErr}
use Rattle.flit_words.specs.declared.layouts.Layout.{Layout}
use Rattle.flit_words.specs.declared.memory.NoMemory.{NoMemory as No_memory}
use Rattle.flit_model.specs.Recovery.{SameShape, IsRecovery, layout_of, image_layout}
use Rattle.flit_model.specs.States.{fresh_words}
use Rattle.flit_model.specs.declared.found.Image.{Image}
use Rattle.flit_model.specs.declared.found.Recovered.{Recovered}
use Rattle.flit_recover.specs.Damages.{IsFirstDamage}
use Rattle.flit_recover.specs.declared.found.Damage.{Damage}
use Rattle.flit_recover.specs.declared.found.Damage.TheVariants.{NoMemory}
use Rattle.flit_trace.specs.AboutTraces.{StartIsValued}
use Rattle.flit_trace.specs.SeenTraces.{SeenTrace}
use Rattle.flit_trace.specs.Starts.{IsStartOf}
use Rattle.flit_trace.specs.declared.heads.Head.{Head}
use Rattle.flit_step_reports.specs.StepReports.{words_or}
use Rattle.flit_structures.specs.Starts.{StartsSeen, StartsFresh, IsStartDamage, words_layout}

abbrev pub ShapesKeep : Type 0
ShapesKeep = (l k : Layout) (words keys values free : List ℕ) → SameShape l k → IsRecovery l words keys values free → IsRecovery k words keys values free

-- the words of an image have its trace's layout, where this has values
shape_of : (l m : Layout) (image : Image) → l ≡ m → m.values ≡ true → IsStartOf l image → SameShape (layout_of image) m
shape_of l m image same valued is = record {
  kind = is.shape.kind ∙ ap (λ (x : Layout). x.kind) same;
  buckets = is.shape.buckets ∙ ap (λ (x : Layout). x.buckets) same;
  rows = is.shape.rows ∙ ap (λ (x : Layout). x.rows) same;
  values = is.shape.values ∙ sym valued;
}

words_same : (l k : Layout) → SameShape l k → words_layout l ≡ words_layout k
words_same l k s =
    ap (λ x. image_layout x l.buckets l.rows l.values) s.kind
    ∙ ap (λ x. image_layout k.kind x l.rows l.values) s.buckets
    ∙ ap (λ x. image_layout k.kind k.buckets x l.values) s.rows
    ∙ ap (λ x. image_layout k.kind k.buckets k.rows x) s.values

module _ (trace : SeenTrace) (valued : StartIsValued) where
  pub found_starts : (image : Image) (start : Recovered) → ShapesKeep → trace.start ≡ Some image.words.items → IsStartOf trace.head.layout image →
      IsRecovery (layout_of image) image.words.items start.keys.items start.values.items start.free.items →
      start.image.words.items ≡ image.words.items → StartsSeen trace start
  found_starts image start keeps has is recovery words = λ bytes t reads shows.
      let told : t.start ≡ Some image.words.items = sym shows.start ∙ has in
      let shape = shape_of trace.head.layout t.head.layout image (ap (λ h. h.layout) shows.head) (valued bytes t image.words.items reads told) is in
      record {
        words = words ∙ sym (ap (words_or _) told);
        recovery = subst (λ ws. IsRecovery t.head.layout ws start.keys.items start.values.items start.free.items) (sym words)
            (keeps (layout_of image) t.head.layout image.words.items start.keys.items start.values.items start.free.items shape recovery);
      }

  pub found_damage : (image : Image) (d : Damage) → trace.start ≡ Some image.words.items → IsStartOf trace.head.layout image →
      IsFirstDamage (layout_of image) image.words.items d → IsStartDamage trace d
  found_damage image d has is damage = λ bytes t reads shows.
      let told : t.start ≡ Some image.words.items = sym shows.start ∙ has in
      let shape = shape_of trace.head.layout t.head.layout image (ap (λ h. h.layout) shows.head) (valued bytes t image.words.items reads told) is in
      subst (λ ws. IsFirstDamage (words_layout t.head.layout) ws d) (sym (ap (words_or _) told))
      (subst (λ l. IsFirstDamage l image.words.items d) (words_same (layout_of image) t.head.layout shape) damage)

  -- whatever recovery of the image gave
  pub starts_found : (image : Image) (found : Result Recovered Damage) → ShapesKeep → trace.start ≡ Some image.words.items → IsStartOf trace.head.layout image →
      IfOk found (λ r. IsRecovery (layout_of image) image.words.items r.keys.items r.values.items r.free.items) →
      IfOk found (λ r. r.image.words.items ≡ image.words.items) → IfOk found (StartsSeen trace)
  starts_found image (Ok start) keeps has is recovery words = found_starts image start keeps has is recovery words
  starts_found image (Err d) keeps has is recovery words = tt

  pub starts_damaged : (image : Image) (found : Result Recovered Damage) → trace.start ≡ Some image.words.items → IsStartOf trace.head.layout image →
      IfErr found (λ d. d ≢ NoMemory → IsFirstDamage (layout_of image) image.words.items d) →
      IfErr found (λ d. d ≢ NoMemory → IsStartDamage trace d)
  starts_damaged image (Ok start) has is damage = tt
  starts_damaged image (Err d) has is damage = λ some. found_damage image d has is (damage some)

-- ---- fresh words

module _ (head : Head) where
  in_its_words : (start : Recovered) → IsRecovery head.layout (fresh_words head.layout) start.keys.items start.values.items start.free.items →
      start.image.words.items ≡ fresh_words head.layout →
      IsRecovery head.layout start.image.words.items start.keys.items start.values.items start.free.items
  in_its_words start recovery words =
      subst (λ ws. IsRecovery head.layout ws start.keys.items start.values.items start.free.items) (sym words) recovery

  starts_fresh : (start : Recovered) → IsRecovery head.layout (fresh_words head.layout) start.keys.items start.values.items start.free.items →
      start.image.words.items ≡ fresh_words head.layout → StartsFresh head start
  starts_fresh start recovery words = λ trace same none bytes t reads shows.
      let here : head ≡ t.head = sym same ∙ shows.head in
      let told : t.start ≡ None = sym shows.start ∙ none in
      record {
        words = words ∙ ap (λ (h : Head). fresh_words h.layout) here ∙ sym (ap (words_or (fresh_words t.head.layout)) told);
        recovery = subst (λ (h : Head). IsRecovery h.layout start.image.words.items start.keys.items start.values.items start.free.items) here
            (in_its_words start recovery words);
      }

  -- whatever recovery of fresh words gave
  pub fresh_found : (found : Result Recovered No_memory) →
      IfOk found (λ r. IsRecovery head.layout (fresh_words head.layout) r.keys.items r.values.items r.free.items) →
      IfOk found (λ r. r.image.words.items ≡ fresh_words head.layout) →
      IfOk found (λ r. IsRecovery head.layout r.image.words.items r.keys.items r.values.items r.free.items)
  fresh_found (Ok start) recovery words = in_its_words start recovery words
  fresh_found (Err e) recovery words = tt

  pub fresh_starts : (found : Result Recovered No_memory) →
      IfOk found (λ r. IsRecovery head.layout (fresh_words head.layout) r.keys.items r.values.items r.free.items) →
      IfOk found (λ r. r.image.words.items ≡ fresh_words head.layout) → IfOk found (StartsFresh head)
  fresh_starts (Ok start) recovery words = starts_fresh start recovery words
  fresh_starts (Err e) recovery words = tt
