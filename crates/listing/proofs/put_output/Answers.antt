use Rattle.form.specs.Form.{bytes}
use Rattle.listing.proofs.Pieces.{heading_room, counts_room, output_laid}
use Rattle.listing.proofs.put_output.Goals as goal

pub put_bytes-r-requires : goal.put_bytes-r-requires
unfolding bytes
put_bytes-r-requires c =
    heading_room c.args.out.now c.args.names.now _ _ _ c.requires.count_bound c.requires.names_len_bound.0 _ _ (c.put_bytes-p.ensures.value, c.put_bytes-p.ensures.out_after) _ _ (c.put_lines-q.ensures.value, c.put_lines-q.ensures.out_after)

pub put_bytes-requires : goal.put_bytes-requires
unfolding bytes
put_bytes-requires c =
    counts_room c.args.out.now c.args.names.now _ _ _ c.requires.count_bound c.requires.names_len_bound.0 _ _ (c.put_bytes-p.ensures.value, c.put_bytes-p.ensures.out_after) _ _ (c.put_lines-q.ensures.value, c.put_lines-q.ensures.out_after) _ _ (c.put_bytes-r.ensures.value, c.put_bytes-r.ensures.out_after) c.args.counts.now c.requires.names_len_bound.1

pub returns : goal.returns
unfolding bytes
returns c =
    let it = output_laid c.args.out.now c.args.names.now _ _ _ c.requires.count_bound c.requires.names_len_bound.0 _ _ (c.put_bytes-p.ensures.value, c.put_bytes-p.ensures.out_after) _ _ (c.put_lines-q.ensures.value, c.put_lines-q.ensures.out_after) _ _ (c.put_bytes-r.ensures.value, c.put_bytes-r.ensures.out_after) c.args.counts.now c.requires.names_len_bound.1 _ _ (c.put_bytes.ensures.value, c.put_bytes.ensures.out_after) in
    record { value = it.0; out_after = it.1 }
