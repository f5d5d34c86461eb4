use Rattle.form.specs.Form.{bytes, header}
use Rattle.text_in.proofs.NameLaws.{header_starts}
use Rattle.text_in.proofs.header_at.Goals as goal

pub returns : goal.returns
unfolding header bytes
returns c = header_starts c.args.s.now c.starts_with.result c.starts_with.ensures.value
