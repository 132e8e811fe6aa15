use Rattle.std.{proofs.Common.{◌∙◌, ap, arith, vec_len}, proofs.lemmas.Grind.get_or_default_zero}
use Rattle.ct_chain.{specs.Bucket.bucket_of, proofs.Keys.key_later}
use Rattle.ct_chain.proofs.key_links.link_key.Goals as goal

pub returns-clause-linked : goal.returns-clause-linked
returns-clause-linked c =
    key_later (vec_len c.args.heads.now) c.args.keys.now c.args.heads.now.items c.args.tails.now.items c.args.next.now.items c.push_reserved.new.self.items c.args.key c.bucket-b.result c.index-last.result.now
    c.requires.few c.requires.linked (c.bucket-b.ensures.is ∙ ap (λ n. bucket_of n c.args.key) c.len.ensures) (c.index-last.ensures ∙ get_or_default_zero c.args.tails.now.items c.bucket-b.result c.index-last.result.now (omega (arith, c.bucket-b.ensures.within, c.len.ensures, c.requires.linked.count))) (omega arith) c.push_reserved.ensures.items
