use Rattle.std.proofs.Common.{ap}
use Rattle.kube_server.proofs.LaterLemmas.{later_equal, later_later}
use Rattle.kube_server_tests.proofs.tests.come_of.Goals as goal

pub feed-requires : goal.feed-requires
feed-requires g c =
    later_later c.args.world.now.conn.changes c.args.world.now.server.changes c.serve.new.server.changes
    c.args.world.now.conn.compacted c.args.world.now.server.compacted c.serve.new.server.compacted c.requires c.serve.ensures

pub returns-in_err-from_str : goal.returns-in_err-from_str
returns-in_err-from_str g c =
    later_equal c.feed.new.self.changes c.serve.new.server.changes c.feed.new.self.compacted c.serve.new.server.compacted
    (ap (λ x. x.changes) c.in_ok-feed.ensures.ok) (ap (λ x. x.compacted) c.in_ok-feed.ensures.ok)

pub returns-in-Feed : goal.returns-in-Feed
returns-in-Feed g c =
    later_equal c.feed.new.self.changes c.serve.new.server.changes c.feed.new.self.compacted c.serve.new.server.compacted
    (ap (λ x. x.changes) c.in_ok-feed.ensures.ok) (ap (λ x. x.compacted) c.in_ok-feed.ensures.ok)
