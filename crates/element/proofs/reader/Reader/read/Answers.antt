use Rattle.element.proofs.Fronts.{first_element}
use Rattle.element.proofs.reader.Reader.read.Goals as goal

pub returns-clause-read : goal.returns-clause-read
returns-clause-read c =
    let r = c.args.self.now in
    let f = c.in-Some.head in
    let told = c.in-Some.ensures in
    first_element r.spot.place r.rest.now f.tag f.size f.content.now f.rest.now told.front told.parts told.whole
