-- A network as it can be observed, what a forward does to it, and the chains that a message can go along.
-- Peers, topics and messages are numbers; an observation is a Boolean. Assumes nothing.
use Rattle.std.specs.Prelude.{◌≡◌, Bool, true, false, not, ◌&&◌, ◌||◌, ℕ, zero, suc, ◌<◌, eqb}

-- The topic of each message; who is present; `known p t q`: p knows q to subscribe to t; what is pending, and what was seen, at a peer.
pub record Net : Type 0 where
  pub topic : ℕ → ℕ
  pub present : ℕ → Bool
  pub known : ℕ → ℕ → ℕ → Bool
  pub pending : ℕ → ℕ → Bool
  pub seen : ℕ → ℕ → Bool

-- A link for m from p to q: p knows q to subscribe to m's topic.
abbrev pub link : Net → ℕ → ℕ → ℕ → Bool
link s m p q = s.known p (s.topic m) q

-- A sound network of N peers and M messages: the present are below N; only the present hold, have seen or are known, and only messages
-- below M; nothing is both pending and seen at one peer.
pub record Sound (N M : ℕ) (s : Net) : Type 0 where
  pub peers : (p : ℕ) → s.present p ≡ true → p < N
  pub held : (p m : ℕ) → s.pending p m ≡ true → (s.present p ≡ true) × (m < M)
  pub had : (p m : ℕ) → s.seen p m ≡ true → (s.present p ≡ true) × (m < M)
  pub linked : (p t q : ℕ) → s.known p t q ≡ true → s.present q ≡ true
  pub apart : (p m : ℕ) → s.pending p m ≡ true → s.seen p m ≡ false

-- The pair q, n is the pair p, m.
abbrev pub at : ℕ → ℕ → ℕ → ℕ → Bool
at p m q n = eqb q p && eqb n m

-- Forward of m by p: m moves from pending to seen at p, and becomes pending at each q that p has a link to, unless it is pending or seen there.
unfoldable pub forward : Net → ℕ → ℕ → Net
forward s p m =
    record {
      topic = s.topic;
      present = s.present;
      known = s.known;
      pending = λ q n. not (at p m q n) && (s.pending q n || (not (s.seen q n) && (eqb n m && link s m p q)));
      seen = λ q n. s.seen q n || at p m q n;
    }

-- Nothing is pending.
abbrev pub Quiet : Net → Type 0
Quiet s = (p m : ℕ) → s.pending p m ≡ false

-- A chain of d links for m that ends at q: from a pending holder, and no later desk has seen m. A holder is a chain of 0 links.
pub data Chain (s : Net) (m : ℕ) : ℕ → ℕ → Type 0 where
  holds : {q : ℕ} → s.pending q m ≡ true → Chain s m q zero
  link_to : {p q d : ℕ} → Chain s m p d → link s m p q ≡ true → s.seen q m ≡ false → Chain s m q (suc d)

-- q ends a chain, of any number of links; of at least one.
abbrev pub Reached : Net → ℕ → ℕ → Type 0
Reached s m q = (d : ℕ) × Chain s m q d

abbrev pub Linked : Net → ℕ → ℕ → Type 0
Linked s m q = (d : ℕ) × Chain s m q (suc d)

-- The shortest chain to q has d links.
pub record Shortest (s : Net) (m q d : ℕ) : Type 0 where
  pub chain : Chain s m q d
  pub least : (k : ℕ) → k < d → Chain s m q k → ⊥
