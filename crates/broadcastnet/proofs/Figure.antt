-- 004's Figure 1 on the engine's own events, from the blank network on: why a partial broadcast may ask nothing of the message's origin, nor that
-- anybody subscribes. Worked out by the definitions themselves. Assumes nothing.
use Rattle.std.specs.Prelude.{◌≡◌, refl, false, List, [], ◌∷◌, ℕ, ◌+◌, replicate, set}
use Rattle.sets.specs.Set.{has, union, meet, minus, only, when, puts, strikes, empties, set_of, sift}
use Rattle.lists.specs.Edit.{edit}
use Rattle.network.specs.declared.Network.{Network}
use Rattle.network.specs.declared.Table.{Table}
use Rattle.network.specs.Network.{mk, peer, message, origin_of}
use Rattle.network.specs.State.{blank_net}
use Rattle.network.specs.Network as network
use Rattle.events.specs.declared.Event.{Event}
use Rattle.events.specs.declared.Event.TheVariants.{Produce, Forward, Unsubscribe, Leave, Join}
use Rattle.floodnet.specs.Produce.{holders, is_new, produced}
use Rattle.floodnet.specs.Forward.{moved, receivers, given, forwarded}
use Rattle.floodnet.specs.Topics.{struck, unsubscribed_from}
use Rattle.floodnet.specs.Links.{link_up, link_down, cleared, placed, left, joined}
use Rattle.network.specs.Rules.{need}
use Rattle.floodnet.specs.Refusals.{refusal_produce, refusal_forward, refusal_topics, refusal_leave, refusal_join}
use Rattle.floodnet.specs.Step.{refusal, effect}
use Rattle.broadcastnet.specs.Broadcast.{present_in, broadcast_partial, audience}
use Rattle.broadcastnet.specs.Commit.{together, underway, without, image}

-- message 5 is of topic 0, and its origin is peer 1
abbrev pub table : Table
table = network.table (replicate 64 0) (replicate 64 1)

-- the events one after another: the sum of their refusals, and the network at the end
unfoldable pub course : Network → List Event → ℕ × Network
course n [] = (0, n)
course n (e ∷ l) =
    let r = course (effect n table e) l in
    (refusal n table e + r.0, r.1)

-- p joins with these topics and neighbours
abbrev pub joins : ℕ → ℕ → ℕ → ℕ → Event
joins p subs pubs who = Join (peer p) (record { subs = subs; pubs = pubs; neighbours = who })

-- "3 green colored nodes, numbered 1, 2 and 3. The node numbered 3 is connected to nodes 1 and 2." "(i) Node 1 produces message m; (ii) Node 1
-- forwards its pending message m to its connected neighboring peer 3; (iii) Node 1 leaves the network (iv) Node 2 unsubscribes from (mssg-tp m),
-- which is the message topic (iv) Node 3 unsubscribes from (mssg-tp m)"
unfoldable pub moves : List Event
moves =
    joins 1 0 1 0
    ∷ (joins 2 1 0 0
    ∷ (joins 3 1 0 6
    ∷ (Produce (peer 1) (message 5)
    ∷ (Forward (peer 1) (message 5)
    ∷ (Leave (peer 1)
    ∷ (Unsubscribe (peer 2) 1
    ∷ (Unsubscribe (peer 3) 1 ∷ [])))))))

-- Then 2 and 3 are left, linked and without topics, and m is pending at 3.
abbrev pub late : Network
late = mk 12 (replicate 32 0) (replicate 32 0) (set (set (replicate 32 0) 2 8) 3 4) (set (replicate 32 0) 3 32) (replicate 32 0) (replicate 1024 0)

pub comes_to_late : course blank_net moves ≡ (0, late)
unfolding course moves blank_net effect refusal joined cleared placed link_up union only minus meet edit when puts strikes empties has sift set_of produced is_new forwarded given moved receivers holders left link_down unsubscribed_from struck need refusal_produce refusal_forward refusal_topics refusal_leave refusal_join
comes_to_late = refl

-- "and finally (v) Node 3 forwards m": it is accepted, and m is pending nowhere after it. In the image m goes to 3 by a partial broadcast. No
-- broadcast would do: "(a) the originating peer (Node 1) is no longer present, [..] and (b) there are no subscribers of m left in the network!"
abbrev pub last : Network
last = effect late table (Forward (peer 3) (message 5))

pub origin_has_left : present_in (image late) (origin_of table (message 5)) ≡ false
unfolding image has
origin_has_left = refl

pub nobody_subscribes : audience table (message 5) (image late) ≡ 0
unfolding audience set_of when puts image has
nobody_subscribes = refl

pub last_accepted : refusal late table (Forward (peer 3) (message 5)) ≡ 0
unfolding refusal refusal_forward need has
last_accepted = refl

pub last_is_partial : image last ≡ broadcast_partial (message 5) (only 3) (image late)
unfolding effect forwarded given moved receivers holders image underway together without broadcast_partial edit when puts union only minus meet has sift set_of
last_is_partial = refl
