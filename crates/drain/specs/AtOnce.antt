-- A peer's messages forwarded at once, by words: for each topic, the messages of that topic go to the known subscribers that have not seen
-- them. Only the topics of messages that are pending somewhere are walked; for that the messages are filed. What the loops keep, part by part;
-- proofs/AtOnceForwards.antt: it is what the forwards do one by one. Assumes nothing.
use Rattle.std.specs.Prelude.{◌≡◌, true, ◌&&◌, List, ℕ, zero, suc, ◌+◌, ◌*◌, ◌^◌, ◌<◌, eqb, get_or, set}
use Rattle.sets.specs.Any.{any}
use Rattle.sets.specs.Set.{has, union, minus, set_of, sift, when, puts}
use Rattle.lists.specs.Edit.{edit}

-- ---- `give_set`: the peers t get the messages of w that they have not seen

unfoldable pub gives : ℕ → List ℕ → ℕ → ℕ → ℕ → ℕ
gives w f t q x = when (has t q) (puts (minus w (get_or f q 0))) x

-- ---- `anywhere`, `topics_of`, `by_topic`: what a drain has to look at

-- the messages that the first k words of l have
unfoldable pub anywhere_of : List ℕ → ℕ → ℕ
anywhere_of l zero = 0
anywhere_of l (suc k) = union (anywhere_of l k) (get_or l k 0)

-- every topic of a table's column is one of the 32
abbrev pub TopicsFit : List ℕ → Type 0
TopicsFit ts = (i : ℕ) → get_or ts i 0 < 32

-- the topics of the messages of s
unfoldable pub topics_of : List ℕ → ℕ → ℕ
topics_of ts s = set_of 32 (λ (t : ℕ). any 64 (λ (m : ℕ). has s m && eqb (get_or ts m 0) t))

-- r has a word for each topic, with the messages of s of that topic
abbrev pub ByTopic : List ℕ → ℕ → List ℕ → Type 0
ByTopic ts s r = (t : ℕ) → t < 32 → get_or r t 0 ≡ sift 64 s (λ (m : ℕ). eqb (get_or ts m 0) t)

-- No word has a message of another topic.
abbrev pub OwnTopics : List ℕ → List ℕ → Type 0
OwnTopics ts words = (t m : ℕ) → t < 32 → has (get_or words t 0) m ≡ true → get_or ts m 0 ≡ t

-- m is filed: its topic is among those used, and m is in the word of its topic. So a walk of the topics used, each with its word, meets m.
pub record Filed (ts words : List ℕ) (used m : ℕ) : Type 0 where
  pub topic : has used (get_or ts m 0) ≡ true
  pub word : has (get_or words (get_or ts m 0) 0) m ≡ true

-- so is every message of w; so is every message of the 32 words of l
abbrev pub AllFiled : (ts words : List ℕ) (used w : ℕ) → Type 0
AllFiled ts words used w = (m : ℕ) → has w m ≡ true → Filed ts words used m

abbrev pub EachFiled : (ts words : List ℕ) (used : ℕ) (l : List ℕ) → Type 0
EachFiled ts words used l = (p : ℕ) → p < 32 → AllFiled ts words used (get_or l p 0)

-- ---- `forward_set`: each topic in turn

-- the messages of w that p knows q to subscribe to
unfoldable pub reach : (g ts : List ℕ) → ℕ → ℕ → ℕ → ℕ
reach g ts p w q = sift 64 w (λ (m : ℕ). has (get_or g (p * 32 + get_or ts m 0) 0) q)

-- each of them becomes pending at q that q has not seen
unfoldable pub spread : (g ts f : List ℕ) → ℕ → ℕ → List ℕ → List ℕ
spread g ts f p w e = edit (λ q x. union x (minus (reach g ts p w q) (get_or f q 0))) e

-- What it makes of the pending messages e and the seen messages f. (The words of g that were read fit, since g is an array of `u32`.)
pub record AtOnce (g ts e f : List ℕ) (p w : ℕ) (e' f' : List ℕ) : Type 0 where
  pub seen : f' ≡ set f p (union (get_or f p 0) w)
  pub pending : e' ≡ spread g ts f' p w (set e p (minus (get_or e p 0) w))
  pub fit : (j : ℕ) → has w j ≡ true → get_or g (p * 32 + get_or ts j 0) 0 < 2 ^ 32
