-- Whether an image is lawful, and what recovery finds in it, rests on the words of its layout: slots, workers and the
-- limit play no part.
use Rattle.std.proofs.Common.{◌≡◌, ℕ, Bool, List, [], ◌∷◌, ◌++◌, refl, ap, ◌∙◌, subst}
use Rattle.std.specs.Ordering.{nat_cmp}
use Rattle.std.specs.FinMap as fin
use Rattle.flit_words.specs.declared.layouts.Kind.{Kind}
use Rattle.flit_words.specs.declared.layouts.Layout.{Layout}
use Rattle.flit_words.specs.declared.links.Link.{Link}
use Rattle.flit_words.specs.Links.{HasRightRemover}
use Rattle.flit_words.specs.Layouts.{above_keys}
use Rattle.flit_model.specs.Lists.{IsChain, IsListLink, IsLawfulChain, next_word, key_in, link_in, link_words}
use Rattle.flit_model.specs.Trees.{Tree, Leaf, Inner, IsEdgeTo, IsLeafAt, IsInnerAt, IsTree, tree_pairs, left_word, right_word}
use Rattle.flit_model.specs.Images.{Shape, Chains, Grown, IsLawfulAs, map_in, free_rows}
use Rattle.flit_model.proofs.HistoryLaws.{all_weaker}
use Rattle.flit_model.specs.Recovery.{SameShape}
use Rattle.flit_model.specs.Recovery.{IsRecovery}

-- two layouts that have the same words
module _ (kind : Kind) (buckets rows : ℕ) (values : Bool) (slots workers limit slots_too workers_too limit_too : ℕ) where
  abbrev one : Layout
  one = record { kind = kind; buckets = buckets; rows = rows; slots = slots; workers = workers; limit = limit; values = values }

  abbrev other : Layout
  other = record { kind = kind; buckets = buckets; rows = rows; slots = slots_too; workers = workers_too; limit = limit_too; values = values }

  remover_too : (k : Link) → HasRightRemover one k → HasRightRemover other k
  remover_too k h = record { most = h.most; named = h.named }

  module _ (image : List ℕ) where
    chain_too : (word : ℕ) (rs : List ℕ) → IsChain one image word rs → IsChain other image word rs
    chain_too word [] h = h
    chain_too word (r ∷ rs) h = (h.0, h.1, h.2, chain_too (next_word one r) rs h.3)

    link_too : (w : ℕ) → IsListLink one (link_in image w) → IsListLink other (link_in image w)
    link_too w h = record { unfrozen = h.unfrozen; remover = remover_too (link_in image w) h.remover }

    lawful_chain_too : (head : ℕ) (rs : List ℕ) → IsLawfulChain one image head rs → IsLawfulChain other image head rs
    lawful_chain_too head rs h = record {
      chain = chain_too head rs h.chain;
      links = all_weaker (λ w. IsListLink one (link_in image w)) (λ w. IsListLink other (link_in image w)) (link_words one head rs) link_too h.links;
      unmarked = h.unmarked;
      rising = h.rising;
      within = h.within;
      bucket = h.bucket;
    }

    edge_too : (edge row : ℕ) → IsEdgeTo one image edge row → IsEdgeTo other image edge row
    edge_too edge row h = record { named = h.named; least = h.least; most = h.most; remover = remover_too (link_in image edge) h.remover }

    leaf_too : (edge lo hi row : ℕ) → IsLeafAt one image edge lo hi row → IsLeafAt other image edge lo hi row
    leaf_too edge lo hi row h = record {
      reached = edge_too edge row h.reached;
      no_left = h.no_left;
      no_right = h.no_right;
      low = h.low;
      high = h.high;
      below = h.below;
      stays = h.stays;
    }

    inner_too : (edge lo hi row : ℕ) → IsInnerAt one image edge lo hi row → IsInnerAt other image edge lo hi row
    inner_too edge lo hi row h = record {
      reached = edge_too edge row h.reached;
      low = h.low;
      high = h.high;
      unflagged = h.unflagged;
      left_frozen = h.left_frozen;
      right_frozen = h.right_frozen;
    }

    tree_too : (edge lo hi : ℕ) (t : Tree) → IsTree one image edge lo hi t → IsTree other image edge lo hi t
    tree_too edge lo hi (Leaf r) h = leaf_too edge lo hi r h
    tree_too edge lo hi (Inner r a b) h = (
      inner_too edge lo hi r h.0,
      tree_too (left_word one r) lo (key_in one image r) a h.1,
      tree_too (right_word one r)
          (key_in one image r) hi b h.2,
    )

    pairs_too : (edge : ℕ) (t : Tree) → tree_pairs one image edge t ≡ tree_pairs other image edge t
    pairs_too edge (Leaf r) = refl
    pairs_too edge (Inner r a b) =
        ap (λ ps. ps ++ tree_pairs one image (right_word one r) b) (pairs_too (left_word one r) a)
        ∙ ap (λ ps. tree_pairs other image (left_word other r) a ++ ps) (pairs_too (right_word one r) b)

    lawful_too : (s : Shape) → IsLawfulAs one image s → IsLawfulAs other image s
    lawful_too (Chains chain) h = (
      h.0,
      record {
        whole = h.1.whole;
        untagged = h.1.untagged;
        chains =
            λ head below. lawful_chain_too head (chain head) (h.1.chains head below);
      },
    )
    lawful_too (Grown t) h = (
      h.0,
      record {
        whole = h.1.whole;
        untagged = h.1.untagged;
        fixed = h.1.fixed;
        top = h.1.top;
        tree = tree_too 4 0 (above_keys 1) t h.1.tree;
        last = h.1.last;
      },
    )

    map_too : (s : Shape) → map_in one image s ≡ map_in other image s
    map_too (Chains chain) = refl
    map_too (Grown t) = ap (λ ps. fin.from_entries {R = nat_cmp} ps) (pairs_too 4 t)

    free_too : (s : Shape) → free_rows one s ≡ free_rows other s
    free_too (Chains chain) = refl
    free_too (Grown t) = refl

    recovery_too : (keys vals free : List ℕ) → IsRecovery one image keys vals free → IsRecovery other image keys vals free
    recovery_too keys vals free h = record {
      map = h.map;
      recovers = record {
        shape = h.recovers.shape;
        lawful = lawful_too h.recovers.shape h.recovers.lawful;
        map = h.recovers.map ∙ map_too h.recovers.shape;
        free_rows = h.recovers.free_rows ∙ free_too h.recovers.shape;
      };
      keys_are = h.keys_are;
      values_are = h.values_are;
    }

pub same_shape_recovery : (l k : Layout) (image keys vals free : List ℕ) → SameShape l k → IsRecovery l image keys vals free → IsRecovery k image keys vals free
same_shape_recovery l k image keys vals free same h =
    recovery_too k.kind k.buckets k.rows k.values l.slots l.workers l.limit k.slots k.workers k.limit image keys vals free
    (subst (λ v. IsRecovery (record { kind = k.kind; buckets = k.buckets; rows = k.rows; slots = l.slots; workers = l.workers; limit = l.limit; values = v })
    image keys vals free) same.values
    (subst (λ n. IsRecovery (record { kind = k.kind; buckets = k.buckets; rows = n; slots = l.slots; workers = l.workers; limit = l.limit; values = l.values })
    image keys vals free) same.rows
    (subst (λ n. IsRecovery (record { kind = k.kind; buckets = n; rows = l.rows; slots = l.slots; workers = l.workers; limit = l.limit; values = l.values })
    image keys vals free) same.buckets
    (subst (λ x. IsRecovery (record { kind = x; buckets = l.buckets; rows = l.rows; slots = l.slots; workers = l.workers; limit = l.limit; values = l.values })
    image keys vals free) same.kind h))))
