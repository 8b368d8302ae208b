-- What keeps the shape of a network when a part is put in place of its own, one law for each part; what keeps it sound when its
-- pending and seen messages are others; and links of a sound network. Assumes nothing.
use Rattle.std.proofs.Common.{rules, ◌∙◌, arith, length-set}
use Rattle.std.specs.Prelude.{◌≡◌, true, false, List, ℕ, ◌^◌, ◌<◌, length, get_or, set}
use Rattle.sets.proofs.laws.Bools.{clash, not_false, bool_ext}
use Rattle.sets.proofs.laws.Lowest.{none_empty}
use Rattle.lists.specs.Edit.{edit}
use Rattle.lists.specs.laws.Edit.{length_edit, edit_below}
use Rattle.network.specs.declared.Peer.{Peer}
use Rattle.network.specs.declared.Message.{Message}
use Rattle.network.specs.declared.Network.{Network}
use Rattle.network.specs.Network.{with_present, with_pubs, with_subs, with_neighbours, with_pending, with_seen, with_known, message, present, linked, pending, saw, Shaped}
use Rattle.network.specs.Sound.{Empty, Sound}
use Rattle.floodnet.specs.laws.Places.{set_below}

-- ---- shape

-- l has n words of k bits
pub record Words (n k : ℕ) (l : List ℕ) : Type 0 where
  pub long : length l ≡ n
  pub fit : (i : ℕ) → get_or l i 0 < 2 ^ k

-- after a store at one place
pub stored : {n k : ℕ} (l : List ℕ) (i v : ℕ) → length l ≡ n → ((j : ℕ) → get_or l j 0 < 2 ^ k) → v < 2 ^ k → Words n k (set l i v)
stored l i v e f h = record { long = length-set l i v ∙ e; fit = set_below l i v _ h f }

-- after an edit of every place
pub edited : {n k : ℕ} (f : ℕ → ℕ → ℕ) (l : List ℕ) → length l ≡ n → ((j : ℕ) → get_or l j 0 < 2 ^ k) → ((j : ℕ) → f j (get_or l j 0) < 2 ^ k) → Words n k (edit f l)
edited f l e b h = record { long = length_edit f l ∙ e; fit = edit_below f l _ (omega (arith, b 0)) (λ j o. h j) }

module _ {n : Network} (s : Shaped n) where
  pub shaped_present : {x : ℕ} → x < 2 ^ 32 → Shaped (with_present n x)
  shaped_present h = search rules

  pub shaped_pubs : {x : List ℕ} → Words 32 32 x → Shaped (with_pubs n x)
  shaped_pubs w = search rules

  pub shaped_subs : {x : List ℕ} → Words 32 32 x → Shaped (with_subs n x)
  shaped_subs w = search rules

  pub shaped_neighbours : {x : List ℕ} → Words 32 32 x → Shaped (with_neighbours n x)
  shaped_neighbours w = search rules

  pub shaped_pending : {x : List ℕ} → Words 32 64 x → Shaped (with_pending n x)
  shaped_pending w = search rules

  pub shaped_seen : {x : List ℕ} → Words 32 64 x → Shaped (with_seen n x)
  shaped_seen w = search rules

  pub shaped_known : {x : List ℕ} → Words 1024 32 x → Shaped (with_known n x)
  shaped_known w = search rules

-- ---- other pending and seen messages

-- n with these in their place
abbrev pub holding : Network → List ℕ → List ℕ → Network
holding n waiting had = with_seen (with_pending n waiting) had

-- It is sound, if only the present hold or have seen a message, and none both at once.
pub holding_sound : {n : Network} (waiting had : List ℕ) → Sound n → Shaped (holding n waiting had)
    → ((q : Peer) (k : Message) → pending (holding n waiting had) q k ≡ true → present n q ≡ true)
    → ((q : Peer) (k : Message) → saw (holding n waiting had) q k ≡ true → present n q ≡ true)
    → ((q : Peer) (k : Message) → pending (holding n waiting had) q k ≡ true → saw (holding n waiting had) q k ≡ false)
    → Sound (holding n waiting had)
holding_sound {n} waiting had s shape held seen apart =
    record {
      shaped = shape;
      empty = empty;
      own = s.own;
      near = s.near;
      back = s.back;
      knows = s.knows;
      apart = apart;
    }
  where
    empty : (q : Peer) → q.0 < 32 → present n q ≡ false → Empty (holding n waiting had) q
    empty q b a =
        let e = s.empty q b a in
        record {
          pubs = e.pubs;
          subs = e.subs;
          neighbours = e.neighbours;
          pending = none_empty _ λ k. not_false λ h. clash (held q (message k) h) a;
          seen = none_empty _ λ k. not_false λ h. clash (seen q (message k) h) a;
          known = e.known;
        }

-- ---- links of a sound network (more of them: network, specs/laws/SoundLaws.antt)

-- A link is listed on both sides or on none.
pub linked_turn : {n : Network} → Sound n → (p q : Peer) → linked n p q ≡ linked n q p
linked_turn s p q = bool_ext (s.back p q) (s.back q p)
