-- The commitment map (document 01, "Commitment map"): "The image keeps presence, pubs and subs, and from every seen set removes each message
-- pending at any peer (the commitment map of 004). It is written to a second lent buffer as 32 peer records whose neighbours, pending and
-- known subscribers are zero." In 004 it is f2b: a message that is still under way anywhere does not show. Assumes nothing.
use Rattle.std.specs.Prelude.{Bool, List, ℕ, zero, suc, get_or, replicate}
use Rattle.sets.specs.Set.{union, minus, set_of}
use Rattle.sets.specs.Any.{any}
use Rattle.lists.specs.Edit.{edit}
use Rattle.network.specs.declared.Message.{Message}
use Rattle.network.specs.declared.Network.{Network}
use Rattle.network.specs.Network.{mk, peer, pending, saw}
use Rattle.broadcastnet.specs.Broadcast.{Broadcastnet, bn}

-- m is pending at a peer
unfoldable pub somewhere : Network → Message → Bool
somewhere n m = any 32 (λ (p : ℕ). pending n (peer p) m)

-- the peers that have seen m
unfoldable pub who_saw : Network → Message → ℕ
who_saw n m = set_of 32 (λ (q : ℕ). saw n (peer q) m)

-- what the first k words of a list have among them
unfoldable pub together : ℕ → List ℕ → ℕ
together zero l = 0
together (suc k) l = union (together k l) (get_or l k 0)

-- fn-pending-mssgs: the messages pending at any peer
unfoldable pub underway : Network → ℕ
underway n = together 32 n.pending

-- each set of a list without the messages of w
unfoldable pub without : ℕ → List ℕ → List ℕ
without w l = edit (λ q x. minus x w) l

-- "keeps presence, pubs and subs, and from every seen set removes each message pending at any peer"
unfoldable pub image : Network → Broadcastnet
image n = bn n.present n.pubs n.subs (without (underway n) n.seen)

-- "32 peer records whose neighbours, pending and known subscribers are zero"
unfoldable pub as_network : Broadcastnet → Network
as_network s = mk s.present s.pubs s.subs (replicate 32 0) (replicate 32 0) s.seen (replicate 1024 0)

-- the image as it is written
unfoldable pub image_net : Network → Network
image_net n = as_network (image n)
